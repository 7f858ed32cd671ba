-- What a site allows: conditions of the site and of a call's arguments, without running anything.
use Rattle.std.specs.Prelude.{◌≡◌, ℕ, ◌+◌, ◌%◌, ◌<◌, ◌≤◌, true, length, is_some, Some}
use Rattle.std.specs.List.{AllByRecursion}
use Rattle.terms.specs.Limits.{Within, soil_limits, thickness_limits, pressure_limits, modulus_limits, ceiling_limits, max_layers, max_depth, category_limits, mark_limits, vibrodriven_limits, diameter_limits, perimeter_limits, area_limits, pile_modulus_limits, length_limits, tip_factor_limits, step_limits, load_limits, factor_limits}
use Rattle.ground.specs.declared.layer.Layer.{Layer}
use Rattle.ground.specs.Layers.{depth}
use Rattle.pile.specs.declared.numbers.PileNumbers.{PileNumbers}
use Rattle.pile.specs.Tip.{needed_depth}
use Rattle.pile.specs.Shaft.{parts_above}
use Rattle.resistance.specs.Fetched.{said_of}
use Rattle.calls.specs.declared.Question.{Question}
use Rattle.study.specs.Sites.{Site, Plain}
use Rattle.study.specs.Sites.Plain.{Lay, Amend, Lift, Drive, Judge}
use Rattle.study.specs.Rules.{Meaning}

-- a layer inside its limits, for which the ground has room and depth left
pub record TakesLayer (s : Site) (l : Layer) : Type 0 where
  pub soil_fits : Within soil_limits l.soil
  pub thickness_fits : Within thickness_limits l.thickness
  pub pressure_fits : Within pressure_limits l.pressure
  pub modulus_fits : Within modulus_limits l.modulus
  pub ceiling_fits : Within ceiling_limits l.ceiling
  pub room : length s.layers < max_layers
  pub shallow : depth s.layers + l.thickness ≤ max_depth

-- an amendment of a layer that is there
pub record TakesAmendment (s : Site) (i p m : ℕ) : Type 0 where
  pub there : i < length s.layers
  pub pressure_fits : Within pressure_limits p
  pub modulus_fits : Within modulus_limits m

-- a pile inside its limits, of even diameter, vibrodriven only in the categories that may be
pub record TakesPile (n : PileNumbers) : Type 0 where
  pub category_fits : Within category_limits n.category
  pub mark_fits : Within mark_limits n.mark
  pub diameter_fits : Within diameter_limits n.diameter
  pub even : n.diameter % 2 ≡ 0
  pub perimeter_fits : Within perimeter_limits n.perimeter
  pub tip_area_fits : Within area_limits n.tip_area
  pub section_fits : Within area_limits n.section
  pub modulus_fits : Within pile_modulus_limits n.modulus
  pub length_fits : Within length_limits n.length
  pub tip_factor_fits : Within tip_factor_limits n.tip_factor
  pub step_fits : Within step_limits n.step
  pub vibrodriven : n.mark ≡ 1 → Within vibrodriven_limits n.category

-- a question inside its limits, a pile, ground down to what its tip needs, and a fraction for every layer whose top is above the tip
pub record TakesJudging (m : Meaning) (s : Site) (q : Question) : Type 0 where
  pub load_fits : Within load_limits q.load
  pub model_fits : Within factor_limits q.model_factor
  pub resistance_fits : Within factor_limits q.resistance_factor
  pub driven : PileNumbers
  pub there : s.pile ≡ Some driven
  pub deep : needed_depth driven ≤ depth s.layers
  pub known : AllByRecursion (λ part. is_some (said_of m.fraction driven part.layer) ≡ true) (parts_above driven.length s.layers)

abbrev pub Allowed : Meaning → Site → Plain → Type 0
Allowed m s (Lay l) = TakesLayer s l
Allowed m s (Amend i p e) = TakesAmendment s i p e
Allowed m s Lift = 0 < length s.layers
Allowed m s (Drive n) = TakesPile n
Allowed m s (Judge q) = TakesJudging m s q
