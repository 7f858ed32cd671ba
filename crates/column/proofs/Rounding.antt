-- Division rounded down and up, and the products of the marches.
use Rattle.std.proofs.Common.{ℕ, ◌+◌, ◌-◌, ◌*◌, ◌/◌, ◌<◌, ◌≤◌, mul-le-mul_right, div-lt_iff_lt-mul, mul-le-mul_left, div-mul-le_self, arith}
use native.Mathlib.Nat.{lt-div-mul-add, le_of_mul-le-mul_left}
use Rattle.std.proofs.lemmas.Nat.{le-div}
use Rattle.transfer.specs.Quotients.{div_mono}
use Rattle.column.specs.Rounding.{ceil}
use Rattle.column.specs.Case.{raised}

-- a whole number that is at most a fraction is at most its floor
pub floor_least : (k s d : ℕ) → 0 < k → k * s ≤ d → s ≤ d / k
floor_least k s d p h = le-div s d k p (omega arith)

-- .. and at least its ceiling where it is at least the fraction
pub ceil_most : (k s d : ℕ) → 0 < k → d ≤ k * s → ceil d k ≤ s
ceil_most k s d p h =
    let below : d + (k - 1) < (s + 1) * k = omega arith in
    let lt : ceil d k < s + 1 = (div-lt_iff_lt-mul p).1 below in
    omega arith

pub ceil_reaches : (a k : ℕ) → 0 < k → a ≤ k * ceil a k
ceil_reaches a k p =
    let up : a + (k - 1) < (a + (k - 1)) / k * k + k = lt-div-mul-add p in
    omega arith

pub floor_mono : (k a b : ℕ) → 0 < k → a ≤ b → a / k ≤ b / k
floor_mono k a b p h = div_mono a b k h

pub ceil_mono : (k a b : ℕ) → 0 < k → a ≤ b → ceil a k ≤ ceil b k
ceil_mono k a b p h = floor_mono k (a + (k - 1)) (b + (k - 1)) p (omega arith)

pub floor_ceil : (k a b : ℕ) → 0 < k → a ≤ b → a / k ≤ ceil b k
floor_ceil k a b p h = floor_mono k a (b + (k - 1)) p (omega arith)

pub raised_mono : (v u q : ℕ) → v ≤ u → raised v q ≤ raised u q
raised_mono v u q h = omega arith

-- k wholes of a lower displacement: s + floor (M h / S), where s and M are below d / k and N / k
pub lower_moved : (k S h s M d N d' : ℕ) → 0 < S → k * s ≤ d → k * M ≤ N → S * d + N * h ≤ S * d' → k * (s + M * h / S) ≤ d'
lower_moved k S h s M d N d' p hs hM ht =
    le_of_mul-le-mul_left (omega (arith, mul-le-mul_left S hs, mul-le-mul_left k (div-mul-le_self (M * h) S), mul-le-mul_right h hM)) p

-- .. and of an upper one: s + ceil (M h / S)
pub upper_moved : (k S h s M d N d' : ℕ) → 0 < S → d ≤ k * s → N ≤ k * M → S * d' ≤ S * d + N * h → d' ≤ k * (s + ceil (M * h) S)
upper_moved k S h s M d N d' p hs hM ht =
    le_of_mul-le-mul_left (omega (arith, mul-le-mul_left S hs, mul-le-mul_left k (ceil_reaches (M * h) S p), mul-le-mul_right h hM)) p

pub lower_loaded : (k a v u M N N' : ℕ) → k * M ≤ N → v ≤ u → N + k * (a * u) ≤ N' → k * (M + a * v) ≤ N'
lower_loaded k a v u M N N' hM hv ht = omega (arith, mul-le-mul_left k (mul-le-mul_left a hv))

pub upper_loaded : (k a v u M N N' : ℕ) → N ≤ k * M → u ≤ v → N' ≤ N + k * (a * u) → N' ≤ k * (M + a * v)
upper_loaded k a v u M N N' hM hv ht = omega (arith, mul-le-mul_left k (mul-le-mul_left a hv))
