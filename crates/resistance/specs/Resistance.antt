-- The resistance R of a pile by a friction rule (µN), its exact fraction, and how far they may be apart.
use Rattle.std.specs.Prelude.{ℕ, ◌+◌, ◌*◌, List, [], ◌∷◌, Option}
use Rattle.terms.specs.Fractions.{Fraction, whole, ◌⊕◌, ◌⊗◌}
use Rattle.ground.specs.declared.layer.Layer.{Layer}
use Rattle.pile.specs.declared.numbers.PileNumbers.{PileNumbers}
use Rattle.pile.specs.Tip.{tip_fraction}
use Rattle.pile.specs.Shaft.{ShaftPart, parts_above, resistance_over}
use Rattle.resistance.specs.Fetched.{frictions_of, exact_frictions_of}

-- R with the rule's answers
abbrev pub resistance_by : (ℕ → ℕ → ℕ → Option ℕ) → List Layer → PileNumbers → ℕ
resistance_by answer ls n = resistance_over ls n (frictions_of answer n (parts_above n.length ls))

-- perimeter × height × exact friction, over the parts
abbrev pub exact_shaft : ℕ → List ShaftPart → List Fraction → Fraction
exact_shaft perimeter [] fs = whole 0
exact_shaft perimeter (s ∷ ss) [] = whole 0
exact_shaft perimeter (s ∷ ss) (f ∷ fs) = whole (perimeter * s.height) ⊗ f ⊕ exact_shaft perimeter ss fs

-- the same terms as R, unrounded, with the rule's fractions for its answers
abbrev pub exact_resistance : (ℕ → ℕ → ℕ → Option Fraction) → List Layer → PileNumbers → Fraction
exact_resistance fraction ls n =
    whole n.tip_area ⊗ tip_fraction ls n ⊕ exact_shaft n.perimeter (parts_above n.length ls) (exact_frictions_of fraction n (parts_above n.length ls))

-- (tolerance + 1)·P·D + A
abbrev pub margin_of : ℕ → PileNumbers → ℕ
margin_of tolerance n = (tolerance + 1) * n.perimeter * n.length + n.tip_area
