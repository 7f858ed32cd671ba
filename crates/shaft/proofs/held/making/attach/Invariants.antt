use Rattle.std.proofs.Common.{◌≡◌, ◌+◌, ◌≤◌, ◌++◌, length}
use Rattle.std.specs.Iterator.Adapters.{zip_first, zip_second}
use Rattle.std.specs.Slice.Iter.{iter_rest}
use Rattle.terms.specs.Limits.{max_layers}
use Rattle.pile.specs.Shaft.{parts_above}
use Rattle.pile.specs.Parts.{parts_left}
use Rattle.pile.specs.FrictionList.{friction_list}
use Rattle.pile.specs.Footing.{layers_under, numbers_on}
use Rattle.shaft.specs.Attached.{attached}
use Rattle.shaft.proofs.held.making.attach.Given as goal

-- what is attached and what is to come are the whole
abbrev pub invariant-loop-part : goal.invariant-loop-part
invariant-loop-part l =
    (length l.parts.items + length (iter_rest (zip_second l.part-iterator)) ≤ max_layers)
    × (l.parts.items ++ attached (parts_left (zip_first l.part-iterator)) (iter_rest (zip_second l.part-iterator)) ≡ attached (parts_above (numbers_on l.footing).length (layers_under l.footing)) (friction_list l.frictions))
