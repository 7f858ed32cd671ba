-- How large Horner's value gets: it grows with x, and at the largest x it is computed.
use Rattle.std.proofs.Common.{◌≡◌, ℕ, zero, suc, ◌+◌, ◌-◌, ◌*◌, ◌/◌, ◌^◌, ◌<◌, ◌≤◌, Bool, true, ltb, refl, le_trans, le_refl, lt_of_le_of_lt, mul-pos, div-mul-le_self, arith}
use Rattle.std.proofs.lemmas.Nat.{le-div, mul-le}
use Rattle.std.proofs.lemmas.Bool.{agree_below_at, ltb-true}
use Rattle.friction.specs.Series.{horner}
use Rattle.friction.specs.Horner.{horner_scale}

horner_mono : (scale x y d k m : ℕ) → 0 < d → x ≤ y → horner scale x d k m ≤ horner scale y d k m
unfolding horner
horner_mono scale x y d k zero pos h = le_refl scale
horner_mono scale x y d k (suc m) pos h =
    let a = x * horner scale x d (suc k) m in
    let b = y * horner scale y d (suc k) m in
    let q = d * suc k in
    let ab : a ≤ b = mul-le _ _ _ _ h (horner_mono scale x y d (suc k) m pos h) in
    let f : a / q ≤ b / q = le-div (a / q) b q (mul-pos pos (omega arith)) (le_trans (div-mul-le_self a q) ab) in
    omega arith

abbrev small : ℕ → Bool
small k = ltb (horner 1000000000 350000 10000 k (60 - k)) (2 ^ 90)

all_small : (k : ℕ) → k < 61 → small k ≡ true
unfolding horner
all_small k = agree_below_at small (λ _. true) 61 k refl

pub horner_small : (x k : ℕ) → x ≤ 350000 → k ≤ 60 → horner 1000000000 x 10000 k (60 - k) < 2 ^ 90
horner_small x k hx hk =
    lt_of_le_of_lt (horner_mono 1000000000 x 350000 10000 k (60 - k) (omega arith) hx)
    (ltb-true (horner 1000000000 350000 10000 k (60 - k)) (2 ^ 90) (all_small k (omega arith)))

pub product_small : (x k : ℕ) → x ≤ 350000 → k ≤ 60 → x * horner 1000000000 x 10000 k (60 - k) ≤ 350000 * 2 ^ 90
product_small x k hx hk = mul-le _ _ 350000 (2 ^ 90) hx (omega (arith, horner_small x k hx hk))

pub horner_start : (scale x d k : ℕ) → horner scale x d k 0 ≡ scale
unfolding horner
horner_start scale x d k = refl

-- one turn of the loop, from k to k − 1
pub horner_next : (scale x d k n : ℕ) → 0 < k → k ≤ n → scale + x * horner scale x d k (n - k) / (d * k) ≡ horner scale x d (k - 1) (n - (k - 1))
unfolding horner
horner_next scale x d zero n pos h = absurd (omega arith)
horner_next scale x d (suc k) n pos h =
    let e : n - (suc k - 1) ≡ suc (n - suc k) = omega arith in
    let f : suc k - 1 ≡ k = omega arith in
    rw (e, f)

-- what the loop of the sum needs
pub ruleset horner_turns = (horner_start, horner_next, horner_small, horner_scale, product_small)
