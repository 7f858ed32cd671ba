-- Whole numbers that are near fractions: sums, multiples, ceilings and reductions.
use Rattle.std.proofs.Common.{◌≡◌, ℕ, ◌+◌, ◌*◌, ◌/◌, ◌<◌, ◌≤◌, min, Bool, true, false, cond, eqb, leb, refl, mul-le-mul_right, mul-le-mul_left, mul-pos, div-mul-le_self, le_of_mul-le-mul_right, arith}
use native.Mathlib.Nat.{lt-div-mul-add}
use native.Mathlib.Decide.{dec_le}
use Rattle.std.proofs.lemmas.Bool.{leb-true, leb-false}
use Rattle.terms.specs.Fractions.{Fraction, Near, ◌over◌, whole, ◌⊕◌, ◌⊗◌, at_most, floor}
use Rattle.resistance.specs.UnitFriction.{reduced, exactly_reduced}

pub near_more : (t u n : ℕ) (f : Fraction) → t ≤ u → Near t n f → Near u n f
near_more t u n f h a =
    let k : t * f.den ≤ u * f.den = mul-le-mul_right f.den h in
    record { proper = a.proper; not_above = omega (arith, a.not_above); not_below = omega (arith, a.not_below) }

pub near_sum : (s t m n : ℕ) (f g : Fraction) → Near s m f → Near t n g → Near (s + t) (m + n) (f ⊕ g)
near_sum s t m n f g a b =
    let a1 : m * f.den * g.den ≤ (f.num + s * f.den) * g.den = mul-le-mul_right g.den a.not_above in
    let b1 : n * g.den * f.den ≤ (g.num + t * g.den) * f.den = mul-le-mul_right f.den b.not_above in
    let a2 : f.num * g.den ≤ (m * f.den + s * f.den) * g.den = mul-le-mul_right g.den a.not_below in
    let b2 : g.num * f.den ≤ (n * g.den + t * g.den) * f.den = mul-le-mul_right f.den b.not_below in
    record { proper = mul-pos a.proper b.proper; not_above = omega arith; not_below = omega arith }

pub near_times : (k t n : ℕ) (f : Fraction) → Near t n f → Near (k * t) (k * n) (whole k ⊗ f)
near_times k t n f a =
    let a1 : k * (n * f.den) ≤ k * (f.num + t * f.den) = mul-le-mul_left k a.not_above in
    let a2 : k * f.num ≤ k * (n * f.den + t * f.den) = mul-le-mul_left k a.not_below in
    record { proper = omega (arith, a.proper); not_above = omega arith; not_below = omega arith }

pub near_floor : (f : Fraction) → 0 < f.den → Near 1 (floor f) f
near_floor f p =
    let a : f.num / f.den * f.den ≤ f.num = div-mul-le_self f.num f.den in
    let b : f.num < f.num / f.den * f.den + f.den = lt-div-mul-add p in
    record { proper = p; not_above = omega arith; not_below = omega arith }

limited_by : (t a c : ℕ) (f : Fraction) (b : Bool) → leb (c * f.den) f.num ≡ b → Near t a f → Near t (min a c) (cond b (whole c) f)
limited_by t a c f true e h =
    let le : c * f.den ≤ f.num = leb-true (c * f.den) f.num e in
    let k : c * f.den ≤ (a + t) * f.den = omega (arith, le, h.not_below) in
    let l : c ≤ a + t = le_of_mul-le-mul_right k h.proper in
    record { proper = omega arith; not_above = omega arith; not_below = omega arith }
limited_by t a c f false e h =
    let gt : f.num < c * f.den = leb-false (c * f.den) f.num e in
    elim (dec_le a c) [
      | yes l ↦ let m : min a c ≡ a = omega arith in rw m h
      | no l ↦
          let m : min a c ≡ c = omega arith in
          let k : c * f.den ≤ a * f.den = mul-le-mul_right f.den (omega arith) in
          rw m (record { proper = h.proper; not_above = omega (arith, h.not_above, k); not_below = omega (arith, gt) })
    ]

pub near_limited : (t a c : ℕ) (f : Fraction) → Near t a f → Near t (min a c) (at_most c f)
near_limited t a c f h = limited_by t a c f (leb (c * f.den) f.num) refl h

near_seven_tenths : (t a : ℕ) (f : Fraction) → Near t a f → Near (t + 1) (7 * a / 10) ((7 over 10) ⊗ f)
near_seven_tenths t a f h =
    let d = f.den in
    let r = 7 * a / 10 in
    let low : r * 10 ≤ 7 * a = div-mul-le_self (7 * a) 10 in
    let high : 7 * a < r * 10 + 10 = lt-div-mul-add (omega arith) in
    let low1 : r * 10 * d ≤ 7 * a * d = mul-le-mul_right d low in
    let high1 : 7 * a * d ≤ (r * 10 + 10) * d = mul-le-mul_right d (omega arith) in
    let above : a * d ≤ f.num + t * d = h.not_above in
    let below : f.num ≤ a * d + t * d = h.not_below in
    record { proper = omega (arith, h.proper); not_above = omega arith; not_below = omega arith }

reduced_by : (t a : ℕ) (f : Fraction) (b : Bool) → Near t a f → Near (t + 1) (cond b (7 * a / 10) a) (cond b ((7 over 10) ⊗ f) f)
reduced_by t a f true h = near_seven_tenths t a f h
reduced_by t a f false h = near_more t (t + 1) a f (omega arith) h

pub near_reduced : (t a mark : ℕ) (f : Fraction) → Near t a f → Near (t + 1) (reduced mark a) (exactly_reduced mark f)
near_reduced t a mark f h = reduced_by t a f (eqb mark 1) h
