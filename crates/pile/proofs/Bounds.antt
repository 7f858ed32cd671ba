-- The limits that the numbers of a pile, of a layer and of a list of frictions keep.
use Rattle.std.proofs.Common.{◌≡◌, ℕ, ◌%◌, ◌<◌, ◌≤◌, true, false, not, ◌&&◌, eqb, List, length, get_or}
use Rattle.std.proofs.lemmas.Bool.{not-true, not-false, or_parts, ltb-false, eqb-true}
use Rattle.std.proofs.lemmas.List.Sums.{AllPass-from_list_all}
use Rattle.terms.specs.declared.refusal.Refusal.TheVariants.{PileNumber, OddDiameter, VibrodrivenCategory, LayerNumber}
use Rattle.terms.specs.Limits.{outside, Within, category_limits, mark_limits, vibrodriven_limits, diameter_limits, perimeter_limits, area_limits, pile_modulus_limits, length_limits, tip_factor_limits, step_limits, soil_limits, thickness_limits, pressure_limits, modulus_limits, ceiling_limits, friction_limits}
use Rattle.terms.specs.Chains.{when}
use Rattle.terms.proofs.Chained.{none_of, or_none, when_none, within}
use Rattle.ground.specs.declared.layer.Layer.{Layer}
use Rattle.ground.specs.Layers.{fit, layer_flaw}
use Rattle.pile.specs.declared.numbers.PileNumbers.{PileNumbers}
use Rattle.pile.specs.Numbers.{pile_flaw, shape_flaw, stiffness_flaw, sturdy}
use Rattle.pile.specs.Frictions.{all_moderate}

pub record PileBounds (n : PileNumbers) : Type 0 where
  pub category : Within category_limits n.category
  pub mark : Within mark_limits n.mark
  pub diameter : Within diameter_limits n.diameter
  pub even : n.diameter % 2 ≡ 0
  pub perimeter : Within perimeter_limits n.perimeter
  pub tip_area : Within area_limits n.tip_area
  pub section : Within area_limits n.section
  pub modulus : Within pile_modulus_limits n.modulus
  pub length : Within length_limits n.length
  pub tip_factor : Within tip_factor_limits n.tip_factor
  pub step : Within step_limits n.step
  pub marked : (eqb n.mark 1 && outside vibrodriven_limits n.category) ≡ false

pub pile_bounds : (n : PileNumbers) → sturdy n ≡ true → PileBounds n
pile_bounds n h =
    let all = or_none (shape_flaw n) _ (none_of (pile_flaw n) h) in
    let stiff = or_none (stiffness_flaw n) _ all.1 in
    let s1 = or_none (when (outside category_limits n.category) (PileNumber 1)) _ all.0 in
    let s2 = or_none (when (outside mark_limits n.mark) (PileNumber 2)) _ s1.1 in
    let s3 = or_none (when (outside diameter_limits n.diameter) (PileNumber 3)) _ s2.1 in
    let s4 = or_none (when (not (eqb (n.diameter % 2) 0)) OddDiameter) _ s3.1 in
    let s5 = or_none (when (outside perimeter_limits n.perimeter) (PileNumber 4)) _ s4.1 in
    let s6 = or_none (when (outside area_limits n.section) (PileNumber 6)) _ stiff.0 in
    let s7 = or_none (when (outside pile_modulus_limits n.modulus) (PileNumber 7)) _ s6.1 in
    let s8 = or_none (when (outside length_limits n.length) (PileNumber 8)) _ s7.1 in
    let s9 = or_none (when (outside tip_factor_limits n.tip_factor) (PileNumber 9)) _ s8.1 in
    record {
      category = within category_limits n.category (PileNumber 1) s1.0;
      mark = within mark_limits n.mark (PileNumber 2) s2.0;
      diameter = within diameter_limits n.diameter (PileNumber 3) s3.0;
      even = eqb-true (n.diameter % 2) 0 (not-false _ (when_none (not (eqb (n.diameter % 2) 0)) OddDiameter s4.0));
      perimeter = within perimeter_limits n.perimeter (PileNumber 4) s5.0;
      tip_area = within area_limits n.tip_area (PileNumber 5) s5.1;
      section = within area_limits n.section (PileNumber 6) s6.0;
      modulus = within pile_modulus_limits n.modulus (PileNumber 7) s7.0;
      length = within length_limits n.length (PileNumber 8) s8.0;
      tip_factor = within tip_factor_limits n.tip_factor (PileNumber 9) s9.0;
      step = within step_limits n.step (PileNumber 10) s9.1;
      marked = when_none (eqb n.mark 1 && outside vibrodriven_limits n.category) VibrodrivenCategory stiff.1;
    }

pub record LayerBounds (l : Layer) : Type 0 where
  pub soil : Within soil_limits l.soil
  pub thickness : Within thickness_limits l.thickness
  pub pressure : Within pressure_limits l.pressure
  pub modulus : Within modulus_limits l.modulus
  pub ceiling : Within ceiling_limits l.ceiling

pub layer_bounds : (l : Layer) → fit l ≡ true → LayerBounds l
layer_bounds l h =
    let s1 = or_none (when (outside soil_limits l.soil) (LayerNumber 1)) _ (none_of (layer_flaw l) h) in
    let s2 = or_none (when (outside thickness_limits l.thickness) (LayerNumber 2)) _ s1.1 in
    let s3 = or_none (when (outside pressure_limits l.pressure) (LayerNumber 3)) _ s2.1 in
    let s4 = or_none (when (outside modulus_limits l.modulus) (LayerNumber 4)) _ s3.1 in
    record {
      soil = within soil_limits l.soil (LayerNumber 1) s1.0;
      thickness = within thickness_limits l.thickness (LayerNumber 2) s2.0;
      pressure = within pressure_limits l.pressure (LayerNumber 3) s3.0;
      modulus = within modulus_limits l.modulus (LayerNumber 4) s4.0;
      ceiling = within ceiling_limits l.ceiling (LayerNumber 5) s4.1;
    }

-- one friction of a moderate list
pub moderate_at : (qs : List ℕ) (i d : ℕ) → i < length qs → all_moderate qs ≡ true → get_or qs i d ≤ 500000
moderate_at qs i d b h = ltb-false 500000 _ (or_parts _ _ (not-true _ (AllPass-from_list_all (λ q. not (outside friction_limits q)) qs h i d b))).1
