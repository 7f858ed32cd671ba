-- The bracket.
use Rattle.std.proofs.Common.{◌≡◌, ℕ, ◌*◌, ◌<◌, ◌≤◌, ◌∷◌, inl, inr, le_of_eq, mul-le-mul_left, mul-lt-mul_of_pos_right, arith}
use native.Mathlib.Decide.{dec_le}
use Rattle.column.specs.Case.{Case, Sound}
use Rattle.column.specs.Nodes.{Nodes, node, end_force}
use Rattle.column.specs.Marches.{lower_end, upper_end, lower_step, upper_step, lower_march, upper_march}
use Rattle.column.specs.Balanced.{Balanced}
use Rattle.column.specs.Tips.{IsLowerTip, IsUpperTip}
use Rattle.column.specs.Bracket.{BracketStands, Inside, CarriesLess, CarriesMore}
use Rattle.column.proofs.Dominance.{above_lower, below_upper, ends_above, ends_below}
use Rattle.column.proofs.Nodewise.{AtLeast, AtMost, each_at, length_climb}
use Rattle.column.proofs.Built.{from_whole, idle}
use Rattle.column.proofs.Carried.{some_column}

module _ (c : Case) (ok : Sound c) where
  -- a column from a tip whose upper march ends below F is lighter than F; one whose lower march ends above F is heavier
  lighter : (F s k : ℕ) (x : Nodes) → Balanced c k x → upper_end c s < F → x.tip.displacement ≤ k * s → end_force x < F * k
  lighter F s k x b below h = omega (arith, ends_below c ok k s x b h, mul-lt-mul_of_pos_right {k = k} below b.scale)

  heavier : (F s k : ℕ) (x : Nodes) → Balanced c k x → F < lower_end c s → k * s ≤ x.tip.displacement → F * k < end_force x
  heavier F s k x b above h = omega (arith, ends_above c ok k s x b h, mul-lt-mul_of_pos_right {k = k} above b.scale)

  lo_side : (T F lo k : ℕ) (x : Nodes) → IsLowerTip c T F lo → Balanced c k x → end_force x ≡ F * k → k * lo ≤ x.tip.displacement
  lo_side T F lo k x (inl is) b e = elim (dec_le (k * lo) x.tip.displacement) [ yes h ↦ h | no h ↦ omega (arith, lighter F lo k x b is.below (omega arith)) ]
  lo_side T F lo k x (inr is) b e = omega (arith, mul-le-mul_left k (le_of_eq is.zero))

  hi_side : (T F hi k : ℕ) (x : Nodes) → IsUpperTip c T F hi → Balanced c k x → end_force x ≡ F * k → x.tip.displacement ≤ k * hi
  hi_side T F hi k x is b e = let heavy : k * hi ≤ x.tip.displacement → F * k < end_force x = heavier F hi k x b is.above in grind arith

  light : (T F lo : ℕ) → 1 ≤ F → IsLowerTip c T F lo → CarriesLess c F lo
  light T F lo some (inl is) =
      let x = from_whole c ok lo in
      record { column = x; less = lighter F lo x.scale x.nodes x.balanced is.below (omega (arith, x.moved)) }
  light T F lo some (inr is) = idle c ok F lo some is.zero

  heavy : (T F hi : ℕ) → IsUpperTip c T F hi → CarriesMore c F hi
  heavy T F hi is =
      let x = from_whole c ok hi in
      record { column = x; more = heavier F hi x.scale x.nodes x.balanced is.above (omega (arith, x.moved)) }

  inside : (T F lo hi : ℕ) → IsLowerTip c T F lo → IsUpperTip c T F hi → Inside c F lo hi
  inside T F lo hi is-lo is-hi k x b e i h =
      let low = lower_march c lo in
      let high = upper_march c hi in
      let under = above_lower c ok k lo x b (lo_side T F lo k x is-lo b e) in
      let over = below_upper c ok k hi x b (hi_side T F hi k x is-hi b e) in
      let least : AtLeast k (node low i) (node x i) = each_at (AtLeast k) (low.tip ∷ low.above) (x.tip ∷ x.above) under i (omega (arith, length_climb (lower_step c) low.tip c.slices)) in
      let most : AtMost k (node high i) (node x i) = each_at (AtMost k) (high.tip ∷ high.above) (x.tip ∷ x.above) over i (omega (arith, length_climb (upper_step c) high.tip c.slices)) in
      record { displacement_least = least.displacement; displacement_most = most.displacement; force_least = least.force; force_most = most.force }

pub bracketed : BracketStands
bracketed c ok T F lo hi some is-lo is-hi = record {
  inside = inside c ok T F lo hi is-lo is-hi;
  less_at_lower = light c ok T F lo some is-lo;
  more_at_upper = heavy c ok T F hi is-hi;
  some_exactly = some_column c ok T F hi is-hi;
}
