use Rattle.std.proofs.Common.{◌≡◌, ◌+◌, ◌≤◌}
use Rattle.std.specs.Iterator.Adapters.{zip_first, zip_second}
use Rattle.std.specs.Slice.Iter.{iter_rest}
use Rattle.pile.specs.FrictionList.{friction_list}
use Rattle.pile.specs.Footing.{layers_under, numbers_on}
use Rattle.pile.specs.Parts.{parts_left}
use Rattle.pile.specs.Shaft.{parts_above, shaft_resistance}
use Rattle.pile.proofs.Shafts.{heights}
use Rattle.pile.proofs.footing.Footing.along_shaft.Given as goal

-- what is summed and what is to come are the whole
abbrev pub invariant-loop-part : goal.invariant-loop-part
invariant-loop-part l =
    let n = numbers_on l.self in
    let rest = parts_left (zip_first l.part-iterator) in
    (heights rest ≤ n.length)
    × (l.sum + shaft_resistance n.perimeter rest (iter_rest (zip_second l.part-iterator)) ≡ shaft_resistance n.perimeter (parts_above n.length (layers_under l.self)) (friction_list l.frictions))
