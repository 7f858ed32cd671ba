-- The shaft of a pile in a ground, over a list of unit frictions (Pa), one for each layer that it passes, the uppermost first.
use Rattle.std.specs.Prelude.{ℕ, ◌*◌, Bool, List, [], ◌∷◌, reverse, Option, nat_lt, slice_index_or}
use Rattle.terms.specs.declared.refusal.Refusal.{Refusal}
use Rattle.terms.specs.declared.refusal.Refusal.TheVariants.{OverstrainedPile}
use Rattle.terms.specs.Chains.{when, or_else}
use Rattle.transfer.specs.Curve.{Curve}
use Rattle.ground.specs.declared.layer.Layer.{Layer}
use Rattle.ground.specs.Edits.{no_layer}
use Rattle.pile.specs.declared.numbers.PileNumbers.{PileNumbers}
use Rattle.pile.specs.Bearing.{bearing_index}
use Rattle.pile.specs.Tip.{tip_resistance, shallow_refusal}
use Rattle.pile.specs.Shaft.{ShaftPart, parts_above, resistance_over}
use Rattle.column.specs.declared.Part.{Part}
use Rattle.column.specs.declared.PileBody.{PileBody}
use Rattle.column.specs.Slices.{slices}
use Rattle.column.specs.Case.{Case, case_of}
use Rattle.shaft.specs.Room.{most_strain}

-- a part with the soil and the modulus of its layer, and with its friction
abbrev pub attach : ShaftPart → ℕ → Part
attach s q = record { height = s.height; soil = s.layer.soil; modulus = s.layer.modulus; friction = q }

-- the parts that have a friction, the uppermost first
abbrev pub attached : List ShaftPart → List ℕ → List Part
attached [] qs = []
attached (s ∷ ss) [] = []
attached (s ∷ ss) (q ∷ qs) = attach s q ∷ attached ss qs

-- the same, the lowest first
abbrev pub parts_up : List Layer → PileNumbers → List ℕ → List Part
parts_up ls n qs = reverse (attached (parts_above n.length ls) qs)

abbrev pub bearing_layer : List Layer → ℕ → Layer
bearing_layer ls d = slice_index_or ls (bearing_index ls d) no_layer

-- S: MPa times mm² is N
abbrev pub stiffness_of : PileNumbers → ℕ
stiffness_of n = n.modulus * n.section

-- the tip has soil and modulus of the bearing layer, and qb
abbrev pub body_on : List Layer → PileNumbers → PileBody
body_on ls n = record {
  tip_area = n.tip_area;
  perimeter = n.perimeter;
  stiffness = stiffness_of n;
  diameter = n.diameter;
  tip_soil = (bearing_layer ls n.length).soil;
  tip_modulus = (bearing_layer ls n.length).modulus;
  tip_resistance = tip_resistance ls n;
}

-- the pile in its ground as a column sees it, under the two curves of a law
abbrev pub case_on : Curve → Curve → List Layer → PileNumbers → List ℕ → Case
case_on shaft tip ls n qs = case_of shaft tip (body_on ls n) (slices n.step (parts_up ls n qs))

-- R over 10,000·S: the resistance would shorten a mm of the pile by more than 10,000 nm
abbrev pub overstrained : List Layer → PileNumbers → List ℕ → Bool
overstrained ls n qs = nat_lt (most_strain * stiffness_of n) (resistance_over ls n qs)

abbrev pub strain_refusal : List Layer → PileNumbers → List ℕ → Option Refusal
strain_refusal ls n qs = when (overstrained ls n qs) OverstrainedPile

-- why there is no shaft to march over: the ground ends above what the tip needs, or the resistance overstrains the pile
abbrev pub shaft_refusal : List Layer → PileNumbers → List ℕ → Option Refusal
shaft_refusal ls n qs = or_else (shallow_refusal ls n) (strain_refusal ls n qs)
