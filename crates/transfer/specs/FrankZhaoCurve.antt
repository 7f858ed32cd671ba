-- The curve of Frank and Zhao is at rest at 0, rises and is capped.
use Rattle.std.specs.Prelude.{◌≡◌, ℕ, ◌*◌, ◌/◌, ◌≤◌}
use Rattle.std.proofs.Common.{ap, ◌∙◌, mul-le-mul_left, mul-zero, arith}
use Rattle.std.proofs.Math.Nat.{zero-div}
use Rattle.terms.specs.Fractions.{floor}
use Rattle.transfer.specs.declared.Place.{Place}
use Rattle.transfer.specs.declared.Place.TheVariants.{Shaft, Tip}
use Rattle.transfer.specs.Curve.{Transfers}
use Rattle.transfer.specs.FrankZhao.{shaft_slope, tip_slope, first_branch, second_branch, frank_zhao, frank_zhao_at}
use Rattle.transfer.specs.Quotients.{div_mono}

at_rest : (m modulus q width : ℕ) → frank_zhao m modulus q width 0 ≡ 0
at_rest m modulus q width =
    let e : m * modulus * 0 / (10000 * width) ≡ 0 = ap (λ (n : ℕ). n / (10000 * width)) (mul-zero (m * modulus)) ∙ zero-div (10000 * width) in
    omega arith

rises : (m modulus q width s t : ℕ) → s ≤ t → frank_zhao m modulus q width s ≤ frank_zhao m modulus q width t
rises m modulus q width s t h =
    let le : m * modulus * s ≤ m * modulus * t = mul-le-mul_left (m * modulus) h in
    let first = div_mono (m * modulus * s) (m * modulus * t) (10000 * width) le in
    let x = first_branch m modulus width s in
    let y = first_branch m modulus width t in
    let second : floor (second_branch q x) ≤ floor (second_branch q y) =
    div_mono (second_branch q x).num (second_branch q y).num (second_branch q x).den (omega arith) in
    omega arith

-- whatever slope each soil has
sloped : (m : ℕ → ℕ) → Transfers (λ soil modulus q width s. frank_zhao (m soil) modulus q width s)
sloped m = record {
  rest = λ soil modulus q width. at_rest (m soil) modulus q width;
  rising = λ soil modulus q width s t h. rises (m soil) modulus q width s t h;
  capped = λ soil modulus q width s. omega arith;
}

pub frank_zhao_transfers : (place : Place) → Transfers (frank_zhao_at place)
frank_zhao_transfers Shaft = sloped shaft_slope
frank_zhao_transfers Tip = sloped tip_slope
