-- The number by which a caller gives a soil.
use Rattle.std.specs.Prelude.{◌≡◌, ℕ, true, Result, MatchResult}
use Rattle.terms.specs.declared.soil.Soil.{Soil}
use Rattle.terms.specs.declared.soil.Soil.TheVariants.{Clay, Sand, Chalk, Marl, Rock}
use Rattle.terms.specs.declared.soil.UnknownSoil.{UnknownSoil}
use Rattle.terms.specs.Limits.{outside, soil_limits}

-- clay or silt, sand or gravel, chalk, marl, weathered rock
abbrev pub number_of_soil : Soil → ℕ
number_of_soil Clay = 1
number_of_soil Sand = 2
number_of_soil Chalk = 3
number_of_soil Marl = 4
number_of_soil Rock = 5

-- the soil of that number, or the number where it is outside the limits
abbrev pub IsSoil : ℕ → Result Soil UnknownSoil → Type 0
IsSoil n r = MatchResult r (λ soil. number_of_soil soil ≡ n) (λ e. (e.0 ≡ n) × (outside soil_limits n ≡ true))
