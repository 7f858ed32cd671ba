-- A test that holds nowhere in 0 to n, and no lower march that ends above a load.
use Rattle.std.proofs.Common.{◌≡◌, ℕ, zero, suc, ◌<◌, ◌≤◌, Bool, true, false, not, ◌&&◌, ltb, refl, subst, arith}
use native.Mathlib.Decide.{dec_le}
use Rattle.std.proofs.lemmas.Bool.{and_parts, ltb-true, lt-ltb, le-ltb}
use Rattle.column.specs.Case.{Case}
use Rattle.column.specs.Marches.{lower_end}
use Rattle.column.specs.Tips.{nowhere_to, no_march_above, MarchAbove}

both : (a b : Bool) → a ≡ false → b ≡ true → (not a && b) ≡ true
both false true e h = refl
both false false e h = h
both true b e h = cc

nowhere_all : (f : ℕ → Bool) (n : ℕ) → ((t : ℕ) → t ≤ n → f t ≡ false) → nowhere_to f n ≡ true
unfolding nowhere_to
nowhere_all f zero h = let e : f 0 ≡ false = h 0 (omega arith) in cc
nowhere_all f (suc n) h = both (f (suc n)) (nowhere_to f n) (h (suc n) (omega arith)) (nowhere_all f n (λ t k. h t (omega arith)))

pub record Found (f : ℕ → Bool) (n : ℕ) : Type 0 where
  pub place : ℕ
  pub within : place ≤ n
  pub holds : f place ≡ true

found_by : (f : ℕ → Bool) (n : ℕ) (b : Bool) → f n ≡ b → (not b ≡ false) → Found f n
found_by f n true e h = record { place = n; within = omega arith; holds = e }
found_by f n false e h = cc

found_more : (f : ℕ → Bool) (n : ℕ) → Found f n → Found f (suc n)
found_more f n h = record { place = h.place; within = omega (arith, h.within); holds = h.holds }

found_or : (f : ℕ → Bool) (n : ℕ) (b d : Bool) → f (suc n) ≡ b → (not b && d) ≡ false → (d ≡ false → Found f n) → Found f (suc n)
found_or f n true d e h k = record { place = suc n; within = omega arith; holds = e }
found_or f n false d e h k = found_more f n (k h)

-- where a test does not hold nowhere, it holds somewhere
somewhere : (f : ℕ → Bool) (n : ℕ) → nowhere_to f n ≡ false → Found f n
unfolding nowhere_to
somewhere f zero h = found_by f zero (f zero) refl h
somewhere f (suc n) h = found_or f n (f (suc n)) (nowhere_to f n) refl h (λ e. somewhere f n e)

by_value : (f : ℕ → Bool) (n t : ℕ) (b : Bool) → nowhere_to f n ≡ b → t ≤ n → f t ≡ true → b ≡ false
unfolding nowhere_to
by_value f n t false e h k = refl
by_value f zero t true e h k =
    let z : t ≡ 0 = omega arith in
    let k0 : f 0 ≡ true = subst (λ (x : ℕ). f x ≡ true) z k in
    cc
by_value f (suc n) t true e h k =
    let p = and_parts (not (f (suc n))) (nowhere_to f n) e in
    elim (dec_le t n) [
      | yes low ↦ by_value f n t true p.1 low k
      | no high ↦
          (let z : t ≡ suc n = omega arith in
          let k0 : f (suc n) ≡ true = subst (λ (x : ℕ). f x ≡ true) z k in
          let q : not (f (suc n)) ≡ true = p.0 in
          cc)
    ]

-- every lower march in 0 to T ends at most at F
pub none_above : (c : Case) (T F : ℕ) → ((t : ℕ) → t ≤ T → lower_end c t ≤ F) → no_march_above c T F ≡ true
none_above c T F h = nowhere_all (λ s. ltb F (lower_end c s)) T (λ t k. le-ltb F (lower_end c t) (h t k))

-- and the other way round
pub some_above : (c : Case) (T F : ℕ) → no_march_above c T F ≡ false → MarchAbove c T F
some_above c T F h =
    let f = somewhere (λ s. ltb F (lower_end c s)) T h in
    record { from = f.place; within = f.within; above = ltb-true F (lower_end c f.place) f.holds }

pub above_some : (c : Case) (T F t : ℕ) → t ≤ T → F < lower_end c t → no_march_above c T F ≡ false
above_some c T F t h k = by_value (λ s. ltb F (lower_end c s)) T t (no_march_above c T F) refl h (lt-ltb F (lower_end c t) k)
