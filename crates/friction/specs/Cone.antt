-- The cone pressuremeter: friction in clay or silt alone, for every category; 8·p·(3,000 − p)/225 Pa up to a net limit pressure p of 1,500 kPa, and 80,000 Pa above it.
use Rattle.std.specs.Prelude.{ℕ, ◌-◌, ◌*◌, cond, Some, None, Option, ◌==◌, nat_le}
use Rattle.terms.specs.Fractions.{Fraction, ◌over◌, whole, floor}
use Rattle.friction.specs.Rule.{inside_limits}

abbrev pub cone_at : ℕ → Fraction
cone_at p = cond (nat_le p 1500) (8 * p * (3000 - p) over 225) (whole 80000)

-- x in clay or silt, and none in other soils
abbrev pub in_clay : {X : Type 0} → ℕ → X → Option X
in_clay soil x = cond (soil == 1) (Some x) None

abbrev pub cone_fraction : ℕ → ℕ → ℕ → Option Fraction
cone_fraction soil category p = inside_limits soil category p (in_clay soil (cone_at p))

-- the fraction rounded down
abbrev pub cone_answer : ℕ → ℕ → ℕ → Option ℕ
cone_answer soil category p = inside_limits soil category p (in_clay soil (floor (cone_at p)))
