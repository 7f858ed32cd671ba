-- What a friction rule says of the layers that the shaft passes, the uppermost first. The rule is any function of soil, category and net limit pressure.
use Rattle.std.specs.Prelude.{ℕ, ◌+◌, not, List, [], ◌∷◌, map, is_some, None, Option}
use Rattle.std.specs.Option.{unwrap_or}
use Rattle.terms.specs.declared.refusal.Refusal.{Refusal}
use Rattle.terms.specs.declared.refusal.Refusal.TheVariants.{NoFriction}
use Rattle.terms.specs.Chains.{when, or_else}
use Rattle.terms.specs.Fractions.{Fraction, whole}
use Rattle.ground.specs.declared.layer.Layer.{Layer}
use Rattle.pile.specs.declared.numbers.PileNumbers.{PileNumbers}
use Rattle.pile.specs.Shaft.{ShaftPart}
use Rattle.resistance.specs.UnitFriction.{friction_of, exact_friction_of}

-- what the rule says of one layer
abbrev pub said_of : {X : Type 0} → (ℕ → ℕ → ℕ → Option X) → PileNumbers → Layer → Option X
said_of rule n l = rule l.soil n.category l.pressure

-- the first part, counted from i, of whose layer the rule says nothing
abbrev pub unsaid_from : {X : Type 0} → (ℕ → ℕ → ℕ → Option X) → PileNumbers → ℕ → List ShaftPart → Option Refusal
unsaid_from rule n i [] = None
unsaid_from rule n i (s ∷ ss) = or_else (when (not (is_some (said_of rule n s.layer))) (NoFriction i)) (unsaid_from rule n (i + 1) ss)

-- q of each part, where the rule answers of each
abbrev pub friction_at : (ℕ → ℕ → ℕ → Option ℕ) → PileNumbers → ShaftPart → ℕ
friction_at answer n s = friction_of n s.layer (unwrap_or (said_of answer n s.layer) 0)

abbrev pub frictions_of : (ℕ → ℕ → ℕ → Option ℕ) → PileNumbers → List ShaftPart → List ℕ
frictions_of answer n = map (friction_at answer n)

-- the exact friction of each part, where the rule has a fraction for each
abbrev pub exact_friction_at : (ℕ → ℕ → ℕ → Option Fraction) → PileNumbers → ShaftPart → Fraction
exact_friction_at fraction n s = exact_friction_of n s.layer (unwrap_or (said_of fraction n s.layer) (whole 0))

abbrev pub exact_frictions_of : (ℕ → ℕ → ℕ → Option Fraction) → PileNumbers → List ShaftPart → List Fraction
exact_frictions_of fraction n = map (exact_friction_at fraction n)
