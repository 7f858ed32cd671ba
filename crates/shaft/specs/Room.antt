-- What holds of a shaft that a march can go up: numbers inside the limits of the law that is asked, and a resistance (µN) that strains the
-- pile by at most 1 in 100, so that no displacement (nm) and no product outgrows its bounds.
use Rattle.std.specs.Prelude.{◌≡◌, ℕ, ◌+◌, ◌*◌, ◌<◌, ◌≤◌, Bool, true, not, ◌&&◌, List, [], ◌∷◌}
use Rattle.terms.specs.Limits.{Within, outside, soil_limits, modulus_limits, unit_resistance_limits, area_limits, pile_modulus_limits, perimeter_limits, diameter_limits, length_limits, step_limits}
use Rattle.column.specs.declared.Part.{Part}
use Rattle.column.specs.declared.PileBody.{PileBody}

-- the most that a mm of the pile may shorten, in nm
abbrev pub most_strain : ℕ
most_strain = 10000

-- the greatest stiffness of a pile, N
abbrev pub stiffest : ℕ
stiffest = area_limits.most * pile_modulus_limits.most

-- the height of the parts, mm
abbrev pub height_of : List Part → ℕ
height_of [] = 0
height_of (p ∷ ps) = p.height + height_of ps

-- the most that a part can carry, and the parts together: P·h·q
abbrev pub part_resistance : PileBody → Part → ℕ
part_resistance b p = b.perimeter * p.height * p.friction

abbrev pub parts_resistance : PileBody → List Part → ℕ
parts_resistance b [] = 0
parts_resistance b (p ∷ ps) = part_resistance b p + parts_resistance b ps

-- R
abbrev pub whole_resistance : PileBody → List Part → ℕ
whole_resistance b ps = b.tip_area * b.tip_resistance + parts_resistance b ps

-- soil, Ménard modulus and unit resistance, as a law may be asked
abbrev pub Contact : ℕ → ℕ → ℕ → Type 0
Contact soil modulus resistance = Within soil_limits soil × Within modulus_limits modulus × (resistance ≤ unit_resistance_limits.most)

-- the same of every part, as a test
abbrev pub all_contacts : List Part → Bool
all_contacts [] = true
all_contacts (p ∷ ps) =
    not (outside soil_limits p.soil) && not (outside modulus_limits p.modulus) && not (outside unit_resistance_limits p.friction) && all_contacts ps

-- the limits of a body
abbrev pub Body : PileBody → Type 0
Body b = (0 < b.stiffness) × (b.stiffness ≤ stiffest) × (b.perimeter ≤ perimeter_limits.most) × Within diameter_limits b.diameter

pub record Room (b : PileBody) (step : ℕ) (ps : List Part) : Type 0 where
  pub body : Body b
  pub tip : Contact b.tip_soil b.tip_modulus b.tip_resistance
  pub shaft : all_contacts ps ≡ true
  pub step_fits : Within step_limits step
  pub deep : height_of ps ≤ length_limits.most
  pub firm : whole_resistance b ps ≤ most_strain * b.stiffness
