-- What a search for a tip displacement keeps, whatever it tries; and both tips from the first march that ends above.
use Rattle.std.proofs.Common.{◌≡◌, ℕ, ◌-◌, ◌<◌, ◌≤◌, min, true, ap, ◌∙◌, inl, inr, Option, Some, None, arith}
use Rattle.std.specs.Prelude.{MatchOption}
use native.Mathlib.Decide.{dec_le}
use Rattle.transfer.specs.declared.Place.{Place}
use Rattle.transfer.specs.declared.Place.TheVariants as place
use Rattle.transfer.specs.Curve.{Curve, Transfers}
use Rattle.column.specs.declared.Node.{Node}
use Rattle.column.specs.Case.{Case, Sound}
use Rattle.column.specs.Marches.{lower_end, upper_end}
use Rattle.column.specs.Tips.{IsLowerTip, IsUpperTip, no_march_above}
use Rattle.column.proofs.Rising.{ends_rise}
use Rattle.column.proofs.Nowhere.{none_above}
use Rattle.march.specs.Curves.{case_of_bedded}
use Rattle.march.specs.declared.Bedded.{Bedded}
use Rattle.march.specs.declared.Side.{Side}
use Rattle.march.specs.declared.Side.TheVariants.{Lower, Upper}
use Rattle.march.specs.Sides.{head_by}
use Rattle.tips.specs.FirstAbove.{end_by, FirstAbove}

-- the search is between from and to: the one's march ends at most at F, the other's above it
pub record Apart (side : Side) (c : Case) (T F from to : ℕ) : Type 0 where
  pub order : from < to
  pub within : to ≤ T
  pub above : F < end_by side c to
  pub below : end_by side c from ≤ F

pub rises : (side : Side) {c : Case} → Sound c → (s t : ℕ) → s ≤ t → end_by side c s ≤ end_by side c t
rises Lower {c} ok s t h = (ends_rise c ok s t h).0
rises Upper {c} ok s t h = (ends_rise c ok s t h).1

-- a shaft in its soil
pub sound : {L : Type 0} {curve : L → Place → Curve} (x : Bedded L) → ((law : L) (place : Place) → Transfers (curve law place)) → Sound (case_of_bedded curve x)
sound x keeps = record { shaft = keeps x.law.now place.Shaft; tip = keeps x.law.now place.Tip; stiff = x.shaft.now.bodied.0 }

-- the force that a march from inside the range ends with
pub ended : (side : Side) (c : Case) (T s : ℕ) (n : Node) → n ≡ head_by side c (min s T) → s ≤ T → n.force ≡ end_by side c s
ended Lower c T s n e h = ap (λ (x : Node). x.force) e ∙ ap (lower_end c) (omega arith)
ended Upper c T s n e h = ap (λ (x : Node). x.force) e ∙ ap (upper_end c) (omega arith)

module _ (side : Side) {c : Case} (ok : Sound c) {T F : ℕ} where
  pub none : {r : ℕ} → r ≡ end_by side c T → r ≤ F → (t : ℕ) → t ≤ T → end_by side c t ≤ F
  none e h t within = omega (arith, rises side ok t T within)

  pub found : {from to : ℕ} → to - from ≤ 1 → Apart side c T F from to → FirstAbove side c T F to
  found {from} {to} met n = record {
    within = n.within;
    above = n.above;
    smallest = λ t within above. let low : t ≤ from → end_by side c t ≤ end_by side c from = rises side ok t from in grind (arith, n.below);
  }

-- the two tips
pub as_upper : (c : Case) (T F : ℕ) (r : Option ℕ) → MatchOption r ((t : ℕ) → t ≤ T → end_by Lower c t ≤ F) (λ s. FirstAbove Lower c T F s) →
    MatchOption r (no_march_above c T F ≡ true) (λ s. IsUpperTip c T F s)
as_upper c T F None all = none_above c T F all
as_upper c T F (Some s) f = record { within = f.within; above = f.above; smallest = f.smallest }

before_first : {c : Case} → Sound c → {T F s : ℕ} → 0 < F → FirstAbove Upper c T (F - 1) s → IsLowerTip c T F (s - 1)
before_first {c} ok {T} {F} {s} some f = elim (dec_le s 0) [
  | yes none ↦ inr (record { zero = omega arith; none = λ t within. omega (arith, rises Upper ok s t (omega arith), f.above) })
  | no more ↦ inl (record {
    within = omega (arith, f.within);
    below = elim (dec_le F (upper_end c (s - 1))) [ yes h ↦ omega (arith, f.smallest (s - 1) (omega (arith, f.within)) (omega arith)) | no h ↦ omega arith ];
    largest = λ t within below. elim (dec_le s t) [ yes h ↦ omega (arith, rises Upper ok s t h, f.above) | no h ↦ omega arith ];
  })
]

pub as_lower : {c : Case} → Sound c → {T F range s : ℕ} {Before : ℕ → Type 0} (r : Option ℕ) → 0 < F → range ≡ T →
    MatchOption r ((t : ℕ) → t ≤ T → end_by Upper c t ≤ F - 1) (λ first. FirstAbove Upper c T (F - 1) first) →
    MatchOption r (s ≡ range) Before → ((first : ℕ) → Before first → s ≡ first - 1) → IsLowerTip c T F s
as_lower {c} ok {s = s} None some et all e before = inl (record { within = omega arith; below = omega (arith, all s (omega arith)); largest = λ t within below. omega arith })
as_lower ok (Some first) some et f e before = rw (before first e) (before_first ok some f)
