-- The parts of the shaft, and the resistance R (µN) of a pile over a list of unit frictions (Pa), one for each part.
use Rattle.std.specs.Prelude.{ℕ, ◌+◌, ◌-◌, ◌*◌, min, cond, List, [], ◌∷◌, nat_lt}
use Rattle.terms.specs.Limits.{area_limits, unit_resistance_limits, perimeter_limits, length_limits, friction_limits}
use Rattle.ground.specs.declared.layer.Layer.{Layer}
use Rattle.pile.specs.declared.numbers.PileNumbers.{PileNumbers}
use Rattle.pile.specs.Tip.{tip_resistance}
use Rattle.pile.specs.declared.parts.ShaftPart as declared

-- the part of a layer that lies above the tip: its height and its layer
abbrev pub ShaftPart : Type 0
ShaftPart = declared.ShaftPart

-- the parts above a depth, the uppermost first: every layer whose top is above it, down to it
abbrev pub parts_above : ℕ → List Layer → List ShaftPart
parts_above d [] = []
parts_above d (l ∷ ls) = cond (nat_lt 0 d) (record { height = min l.thickness d; layer = l } ∷ parts_above (d - l.thickness) ls) []

-- perimeter × height × friction, over the parts that have a friction
abbrev pub shaft_resistance : ℕ → List ShaftPart → List ℕ → ℕ
shaft_resistance perimeter [] qs = 0
shaft_resistance perimeter (s ∷ ss) [] = 0
shaft_resistance perimeter (s ∷ ss) (q ∷ qs) = perimeter * s.height * q + shaft_resistance perimeter ss qs

-- R: under the tip and along the shaft
abbrev pub resistance_over : List Layer → PileNumbers → List ℕ → ℕ
resistance_over ls n qs = n.tip_area * tip_resistance ls n + shaft_resistance n.perimeter (parts_above n.length ls) qs

-- no sum along a shaft is above this, and no R above the next, by the limits of their factors
abbrev pub max_along_shaft : ℕ
max_along_shaft = perimeter_limits.most * length_limits.most * friction_limits.most

abbrev pub max_resistance : ℕ
max_resistance = area_limits.most * unit_resistance_limits.most + max_along_shaft
