use Rattle.std.proofs.Common.{◌≡◌, ◌+◌, ◌-◌, ◌≤◌, drop}
use Rattle.pile.specs.Bearing.{top_of, bearing_index}
use Rattle.pile.proofs.tip.bearing_layer.Given as goal

-- no layer so far bears; the rest is asked at the depth below the tops passed
abbrev pub invariant-loop-index : goal.invariant-loop-index
invariant-loop-index l =
    (l.top ≡ top_of l.layer-items l.index)
    × (l.top ≤ l.at)
    × (bearing_index l.layer-items l.at ≡ l.index + bearing_index (drop l.index l.layer-items) (l.at - l.top))
