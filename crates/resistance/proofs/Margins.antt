-- R is within its margin of its exact fraction.
use Rattle.std.proofs.Common.{◌≡◌, ℕ, ◌+◌, ◌*◌, ◌<◌, ◌≤◌, min, false, not, List, [], ◌∷◌, is_some, Some, None, Option, unwrap_or, subst, arith}
use Rattle.terms.specs.declared.refusal.Refusal.TheVariants.{NoFriction}
use Rattle.terms.specs.Chains.{when}
use Rattle.terms.specs.Fractions.{Fraction, Near, whole}
use Rattle.terms.proofs.Chained.{or_none, when_none}
use Rattle.ground.specs.declared.layer.Layer.{Layer}
use Rattle.ground.specs.Layers.{depth}
use Rattle.pile.specs.declared.numbers.PileNumbers.{PileNumbers}
use Rattle.pile.specs.Tip.{tip_fraction, tip_resistance, half_height, height_above}
use Rattle.pile.specs.Shaft.{ShaftPart, parts_above, shaft_resistance}
use Rattle.pile.proofs.Shafts.{heights, heights_fill}
use Rattle.friction.specs.Rule.{Agrees}
use Rattle.resistance.specs.UnitFriction.{friction_of, exact_friction_of, ceiling_in_pascals}
use Rattle.resistance.specs.Fetched.{said_of, unsaid_from, friction_at, frictions_of, exact_friction_at, exact_frictions_of}
use Rattle.resistance.specs.Resistance.{resistance_by, exact_shaft, exact_resistance, margin_of}
use Rattle.resistance.proofs.Nearness.{near_sum, near_times, near_floor, near_limited, near_reduced}

module _ (tolerance : ℕ) (fraction : ℕ → ℕ → ℕ → Option Fraction) (answer : ℕ → ℕ → ℕ → Option ℕ) (agrees : (soil category p : ℕ) → Agrees tolerance (fraction soil category p) (answer soil category p)) where
  -- the friction of one part
  part_near : (n : PileNumbers) (s : ShaftPart) (f : Option Fraction) (a : Option ℕ) → Agrees tolerance f a → not (is_some a) ≡ false
      → Near (tolerance + 1) (friction_of n s.layer (unwrap_or a 0)) (exact_friction_of n s.layer (unwrap_or f (whole 0)))
  part_near n s None None h e = absurd (let z : ◌≡◌ {A = ℕ} 0 1 = cc in omega arith)
  part_near n s None (Some a) h e = absurd h
  part_near n s (Some f) None h e = absurd h
  part_near n s (Some f) (Some a) h e = near_reduced tolerance (min a (ceiling_in_pascals s.layer)) n.mark _ (near_limited tolerance a (ceiling_in_pascals s.layer) f h)

  shaft_near : (n : PileNumbers) (i : ℕ) (ss : List ShaftPart) → unsaid_from answer n i ss ≡ None
      → Near ((tolerance + 1) * n.perimeter * heights ss) (shaft_resistance n.perimeter ss (frictions_of answer n ss)) (exact_shaft n.perimeter ss (exact_frictions_of fraction n ss))
  shaft_near n i [] e = record { proper = omega arith; not_above = omega arith; not_below = omega arith }
  shaft_near n i (s ∷ ss) e =
      let split = or_none (when (not (is_some (said_of answer n s.layer))) (NoFriction i)) (unsaid_from answer n (i + 1) ss) e in
      let here = part_near n s (said_of fraction n s.layer) (said_of answer n s.layer) (agrees s.layer.soil n.category s.layer.pressure) (when_none _ _ split.0) in
      let times = near_times (n.perimeter * s.height) (tolerance + 1) (friction_at answer n s) (exact_friction_at fraction n s) here in
      let rest = shaft_near n (i + 1) ss split.1 in
      let both = near_sum _ _ _ _ _ _ times rest in
      let size : n.perimeter * s.height * (tolerance + 1) + (tolerance + 1) * n.perimeter * heights ss ≡ (tolerance + 1) * n.perimeter * (s.height + heights ss) = omega arith in
      subst (λ (t : ℕ). Near t (shaft_resistance n.perimeter (s ∷ ss) (frictions_of answer n (s ∷ ss))) (exact_shaft n.perimeter (s ∷ ss) (exact_frictions_of fraction n (s ∷ ss)))) size both

  pub resistance_near : (ls : List Layer) (n : PileNumbers) → n.length ≤ depth ls → unsaid_from answer n 0 (parts_above n.length ls) ≡ None
      → Near (margin_of tolerance n) (resistance_by answer ls n) (exact_resistance fraction ls n)
  resistance_near ls n deep e =
      let parts = parts_above n.length ls in
      let wide : 0 < height_above ls n + 3 * half_height n = omega arith in
      let tip = near_times n.tip_area 1 (tip_resistance ls n) (tip_fraction ls n) (near_floor (tip_fraction ls n) wide) in
      let shaft = shaft_near n 0 parts e in
      let both = near_sum _ _ _ _ _ _ tip shaft in
      let fill : heights parts ≡ n.length = omega (arith, heights_fill n.length ls) in
      let size : n.tip_area * 1 + (tolerance + 1) * n.perimeter * heights parts ≡ margin_of tolerance n = rw fill (omega arith) in
      subst (λ (t : ℕ). Near t (resistance_by answer ls n) (exact_resistance fraction ls n)) size both
