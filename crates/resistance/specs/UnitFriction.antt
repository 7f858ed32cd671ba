-- The unit friction of a layer (Pa): what the rule says, limited to the layer's ceiling, and 7/10 of that for a vibrodriven pile.
use Rattle.std.specs.Prelude.{ℕ, ◌*◌, ◌/◌, min, cond, ◌==◌}
use Rattle.terms.specs.Fractions.{Fraction, ◌over◌, ◌⊗◌, at_most}
use Rattle.ground.specs.declared.layer.Layer.{Layer}
use Rattle.pile.specs.declared.numbers.PileNumbers.{PileNumbers}

-- the ceiling is in kPa
abbrev pub ceiling_in_pascals : Layer → ℕ
ceiling_in_pascals l = 1000 * l.ceiling

-- 7/10 under the vibrodriven mark, rounded down
abbrev pub reduced : ℕ → ℕ → ℕ
reduced mark q = cond (mark == 1) (7 * q / 10) q

-- q, from the rule's answer: the ceiling first, then the mark
abbrev pub friction_of : PileNumbers → Layer → ℕ → ℕ
friction_of n l answer = reduced n.mark (min answer (ceiling_in_pascals l))

-- the same unrounded, from the rule's fraction
abbrev pub exactly_reduced : ℕ → Fraction → Fraction
exactly_reduced mark f = cond (mark == 1) ((7 over 10) ⊗ f) f

abbrev pub exact_friction_of : PileNumbers → Layer → Fraction → Fraction
exact_friction_of n l fraction = exactly_reduced n.mark (at_most (ceiling_in_pascals l) fraction)
