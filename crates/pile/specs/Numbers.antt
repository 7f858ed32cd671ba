-- What the numbers of a pile may be: each inside its limits, the diameter even, the vibrodriven mark only in its categories.
use Rattle.std.specs.Prelude.{◌%◌, Bool, not, ◌&&◌, is_some, Option, ◌==◌}
use Rattle.terms.specs.declared.refusal.Refusal.{Refusal}
use Rattle.terms.specs.declared.refusal.Refusal.TheVariants.{PileNumber, OddDiameter, VibrodrivenCategory}
use Rattle.terms.specs.Limits.{outside, category_limits, mark_limits, vibrodriven_limits, diameter_limits, perimeter_limits, area_limits, pile_modulus_limits, length_limits, tip_factor_limits, step_limits}
use Rattle.terms.specs.Chains.{when, or_else}
use Rattle.pile.specs.declared.numbers.PileNumbers.{PileNumbers}

-- fields 1 to 5: category, mark, diameter, perimeter, tip area
abbrev pub shape_flaw : PileNumbers → Option Refusal
shape_flaw n =
    or_else (when (outside category_limits n.category) (PileNumber 1))
    (or_else (when (outside mark_limits n.mark) (PileNumber 2))
    (or_else (when (outside diameter_limits n.diameter) (PileNumber 3))
    (or_else (when (not (n.diameter % 2 == 0)) OddDiameter)
    (or_else (when (outside perimeter_limits n.perimeter) (PileNumber 4))
    (when (outside area_limits n.tip_area) (PileNumber 5))))))

-- fields 6 to 10: section, modulus, length, tip factor, step
abbrev pub stiffness_flaw : PileNumbers → Option Refusal
stiffness_flaw n =
    or_else (when (outside area_limits n.section) (PileNumber 6))
    (or_else (when (outside pile_modulus_limits n.modulus) (PileNumber 7))
    (or_else (when (outside length_limits n.length) (PileNumber 8))
    (or_else (when (outside tip_factor_limits n.tip_factor) (PileNumber 9))
    (when (outside step_limits n.step) (PileNumber 10)))))

abbrev pub vibrodriven : PileNumbers → Bool
vibrodriven n = n.mark == 1

-- all numbers from the first, then the mark against its categories
abbrev pub pile_flaw : PileNumbers → Option Refusal
pile_flaw n =
    or_else (shape_flaw n)
    (or_else (stiffness_flaw n)
    (when (vibrodriven n && outside vibrodriven_limits n.category) VibrodrivenCategory))

abbrev pub sturdy : PileNumbers → Bool
sturdy n = not (is_some (pile_flaw n))
