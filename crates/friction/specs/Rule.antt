-- What a friction rule says of a layer: the exact unit shaft friction in Pa, a fraction, or none; and a whole answer that agrees with it. It is asked with soil, category of the pile and net limit pressure in kPa.
use Rattle.std.specs.Prelude.{ℕ, Bool, cond, ◌||◌, Some, None, Option}
use Rattle.terms.specs.Limits.{outside, soil_limits, category_limits, pressure_limits}
use Rattle.terms.specs.Fractions.{Fraction, Near}

-- an answer agrees with a fraction within t Pa: both are none, or the answer is at most t from the fraction
abbrev pub Agrees : ℕ → Option Fraction → Option ℕ → Type 0
Agrees t None None = Unit {0}
Agrees t None (Some n) = ⊥
Agrees t (Some f) None = ⊥
Agrees t (Some f) (Some n) = Near t n f

-- soil, category or pressure is outside its limits
abbrev pub beyond_limits : ℕ → ℕ → ℕ → Bool
beyond_limits soil category p = outside soil_limits soil || outside category_limits category || outside pressure_limits p

-- x, and none beyond the limits
abbrev pub inside_limits : {X : Type 0} → ℕ → ℕ → ℕ → Option X → Option X
inside_limits soil category p x = cond (beyond_limits soil category p) None x
