use Rattle.std.proofs.Common.{◌≡◌, ◌+◌, ◌*◌, ◌≤◌, drop}
use Rattle.ground.specs.Layers.{depth}
use Rattle.pile.specs.Pressure.{integral}
use Rattle.pile.proofs.tip.pressure_between.Given as goal

-- what is summed and what is left are the whole, and each layer left can add the greatest pressure
abbrev pub invariant-loop-layer : goal.invariant-loop-layer
invariant-loop-layer l =
    (l.above ≤ l.below)
    × (l.sum + integral (drop l.layer-index l.layer-items) l.above l.below ≡ integral l.layer-items l.from l.to)
    × (l.sum + 10000 * depth (drop l.layer-index l.layer-items) ≤ 10000 * depth l.layer-items)
