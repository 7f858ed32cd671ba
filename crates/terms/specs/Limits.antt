-- The limits of every number that a caller gives; both ends are allowed. Lengths mm, areas mm², pressures and moduli of the ground kPa, of the pile MPa.
use Rattle.std.specs.Prelude.{ℕ, ◌≤◌, min, max, Bool, ◌||◌, nat_lt}
use Rattle.terms.specs.declared.limits.Limits.{Limits}

-- x is below the least or above the most
abbrev pub outside : Limits → ℕ → Bool
outside l x = nat_lt x l.least || nat_lt l.most x

-- the same, the other way round and as a fact
abbrev pub Within : Limits → ℕ → Type 0
Within l x = (l.least ≤ x) × (x ≤ l.most)

-- x, or the limit that is nearest to it
abbrev pub nearest : Limits → ℕ → ℕ
nearest l x = max l.least (min x l.most)

abbrev pub from_to : ℕ → ℕ → Limits
from_to a b = record { least = a; most = b }

-- a layer: 1 clay or silt, 2 sand or gravel, 3 chalk, 4 marl, 5 weathered rock
abbrev pub soil_limits : Limits
soil_limits = from_to 1 5

abbrev pub thickness_limits : Limits
thickness_limits = from_to 100 65000

-- net limit pressure
abbrev pub pressure_limits : Limits
pressure_limits = from_to 0 10000

-- Ménard modulus
abbrev pub modulus_limits : Limits
modulus_limits = from_to 100 1000000

-- friction ceiling
abbrev pub ceiling_limits : Limits
ceiling_limits = from_to 1 500

-- the layers of one ground, and their thickness in all
abbrev pub max_layers : ℕ
max_layers = 32

abbrev pub max_depth : ℕ
max_depth = 100000

-- a pile
abbrev pub category_limits : Limits
category_limits = from_to 1 20

-- 1 for a vibrodriven pile, else 0; 1 only in these categories
abbrev pub mark_limits : Limits
mark_limits = from_to 0 1

abbrev pub vibrodriven_limits : Limits
vibrodriven_limits = from_to 13 16

abbrev pub diameter_limits : Limits
diameter_limits = from_to 200 3000

abbrev pub perimeter_limits : Limits
perimeter_limits = from_to 600 10000

-- the area under the tip, and the area of a section
abbrev pub area_limits : Limits
area_limits = from_to 10000 8000000

-- the modulus of the pile's own material
abbrev pub pile_modulus_limits : Limits
pile_modulus_limits = from_to 10000 210000

abbrev pub length_limits : Limits
length_limits = from_to 500 25000

-- hundredths
abbrev pub tip_factor_limits : Limits
tip_factor_limits = from_to 100 400

abbrev pub step_limits : Limits
step_limits = from_to 100 1000

-- a question: the load in kN, the factors in thousandths
abbrev pub load_limits : Limits
load_limits = from_to 1 1000000

abbrev pub factor_limits : Limits
factor_limits = from_to 1000 2000

-- unit friction of a layer, Pa: a thousand times the greatest ceiling
abbrev pub friction_limits : Limits
friction_limits = from_to 0 500000

-- what a transfer law is asked with: unit resistance in Pa, displacement in nm
abbrev pub unit_resistance_limits : Limits
unit_resistance_limits = from_to 0 40000000

abbrev pub displacement_limits : Limits
displacement_limits = from_to 0 2000000000

-- the length of a hyperbola, nm
abbrev pub hyperbola_limits : Limits
hyperbola_limits = from_to 1 1000000000
