-- The sum of u^k/k! in Horner's way, exact and rounded.
use Rattle.std.specs.Prelude.{◌≡◌, ℕ, zero, suc, ◌+◌, ◌-◌, ◌*◌, ◌/◌, ◌^◌, ◌<◌, ◌≤◌}
use Rattle.std.proofs.Common.{ap, ◌∙◌, le_trans, le_refl, add-zero, zero-add, pow-suc, div-mul-le_self, mul-le-mul_left, mul-le-mul_right, mul-pos, le_of_mul-le-mul_right, arith}
use Rattle.std.proofs.lemmas.Grind.{common_steps}
use Rattle.std.proofs.Math.Nat.{pow-zero, lt-div-mul-add}
use Rattle.terms.specs.Fractions.{Near, ◌over◌}
use Rattle.friction.specs.Series.{factorial, sum_to, horner}

-- d^n·n!, and the sum of x^k/(d^k·k!) times that
bottom : ℕ → ℕ → ℕ
bottom d zero = 1
bottom d (suc n) = bottom d n * (d * suc n)

sums : ℕ → ℕ → ℕ → ℕ
sums x d zero = 1
sums x d (suc n) = sums x d n * (d * suc n) + x ^ suc n

-- (k+1)·..·(k+m)·d^m, and Horner's exact value over it
above : ℕ → ℕ → ℕ → ℕ
above d k zero = 1
above d k (suc m) = d * suc k * above d (suc k) m

top : ℕ → ℕ → ℕ → ℕ → ℕ
top x d k zero = 1
top x d k (suc m) = above d k (suc m) + x * top x d (suc k) m

bottom_is : (d n : ℕ) → bottom d n ≡ d ^ n * factorial n
unfolding bottom factorial
bottom_is d zero = grind (arith, common_steps)
bottom_is d (suc n) = rw (pow-suc d n, bottom_is d n) (omega arith)

bottom_pos : (d n : ℕ) → 0 < d → 0 < bottom d n
unfolding bottom
bottom_pos d zero pos = omega arith
bottom_pos d (suc n) pos = mul-pos (bottom_pos d n pos) (mul-pos pos (omega arith))

-- the sum by fractions is sums / bottom
sum_is : (x d n : ℕ) → let w = sum_to n (x over d) in w.num * bottom d n ≡ sums x d n * w.den
unfolding sum_to bottom sums factorial
sum_is x d zero = rw (pow-zero x, pow-zero d)
sum_is x d (suc n) =
    let w = sum_to n (x over d) in
    let step : (N D S o q X : ℕ) → N * o ≡ S * D → (N * (o * q) + X * D) * (o * q) ≡ (S * q + X) * (D * (o * q)) =
    λ N D S o q X e.
    let e1 : N * o * (q * (o * q)) ≡ S * D * (q * (o * q)) = ap (λ (z : ℕ). z * (q * (o * q))) e in
    omega arith in
    rw (← bottom_is d (suc n)) (step w.num w.den (sums x d n) (bottom d n) (d * suc n) (x ^ suc n) (sum_is x d n))

-- the terms below k, and Horner's value from k on
joined : (x d k m : ℕ) → sums x d (k + m) + x ^ k * above d k m ≡ sums x d k * above d k m + x ^ k * top x d k m
unfolding above top sums
joined x d k zero = rw (add-zero k) (omega arith)
joined x d k (suc m) =
    let ih : sums x d (suc k + m) + x ^ k * x * above d (suc k) m ≡ (sums x d k * (d * suc k) + x ^ k * x) * above d (suc k) m + x ^ k * x * top x d (suc k) m =
    rw (← pow-suc x k) (joined x d (suc k) m) in
    let e : k + suc m ≡ suc k + m = omega arith in
    rw e (omega arith)

bottom_above : (d k m : ℕ) → bottom d (k + m) ≡ bottom d k * above d k m
unfolding above bottom
bottom_above d k zero = rw (add-zero k) (omega arith)
bottom_above d k (suc m) =
    let ih : bottom d (suc k + m) ≡ bottom d k * (d * suc k) * above d (suc k) m = bottom_above d (suc k) m in
    let e : k + suc m ≡ suc k + m = omega arith in
    rw e (omega arith)

-- Horner's exact value at the start is the sum
bottom_is_above : (d n : ℕ) → bottom d n ≡ above d 0 n
unfolding bottom
bottom_is_above d n = let e = bottom_above d 0 n in rw zero-add at e ∙ omega arith

sums_is_top : (x d n : ℕ) → sums x d n ≡ top x d 0 n
unfolding sums
sums_is_top x d n =
    let e = joined x d 0 n in
    let f = rw (zero-add n, pow-zero x) at e in
    omega arith

-- rounded down, Horner's value loses at most one part in `scale` at each step
horner_most : (scale x d k m : ℕ) → horner scale x d k m * above d k m ≤ scale * top x d k m
unfolding horner above top
horner_most scale x d k zero = omega arith
horner_most scale x d k (suc m) =
    let h = horner scale x d (suc k) m in
    let e1 = above d (suc k) m in
    let a1 = top x d (suc k) m in
    let q = d * suc k in
    let f = x * h / q in
    let floor : f * q * e1 ≤ x * h * e1 = mul-le-mul_right e1 (div-mul-le_self (x * h) q) in
    let ih : x * (h * e1) ≤ x * (scale * a1) = mul-le-mul_left x (horner_most scale x d (suc k) m) in
    omega arith

horner_least : (scale x d k m : ℕ) → 0 < d → scale * top x d k m ≤ horner scale x d k m * above d k m + m * top x d k m
unfolding horner above top
horner_least scale x d k zero pos = omega arith
horner_least scale x d k (suc m) pos =
    let h = horner scale x d (suc k) m in
    let e1 = above d (suc k) m in
    let a1 = top x d (suc k) m in
    let q = d * suc k in
    let f = x * h / q in
    let qpos : 0 < q = mul-pos pos (omega arith) in
    let lost : x * h < f * q + q = lt-div-mul-add qpos in
    let lost1 : x * h * e1 ≤ (f * q + q) * e1 = mul-le-mul_right e1 (omega arith) in
    let ih : x * (scale * a1) ≤ x * (h * e1 + m * a1) = mul-le-mul_left x (horner_least scale x d (suc k) m pos) in
    omega arith

top_least : (x d k m : ℕ) → above d k m ≤ top x d k m
unfolding above top
top_least x d k zero = le_refl 1
top_least x d k (suc m) = omega arith

pub horner_scale : (scale x d k m : ℕ) → scale ≤ horner scale x d k m
unfolding horner
horner_scale scale x d k zero = le_refl scale
horner_scale scale x d k (suc m) = omega arith

-- the answer rounded from h, where S over D is the sum, C the amount, y = h − scale and Q = S − D
module _ (S D h scale n C t y Q : ℕ) (hpos : 0 < h) (eh : h ≡ scale + y) (es : S ≡ D + Q) where
  rounded_most : h * D ≤ scale * S → C * y / (100 * h) * (100 * S) ≤ C * Q
  rounded_most most =
      let f : C * y / (100 * h) * (100 * h) ≤ C * y = div-mul-le_self (C * y) (100 * h) in
      let g : C * y / (100 * h) * (100 * h) * S ≤ C * y * S = mul-le-mul_right S f in
      let e1 : h * S ≡ (scale + y) * S = ap (λ (z : ℕ). z * S) eh in
      let e2 : h * S ≡ h * (D + Q) = ap (λ (z : ℕ). h * z) es in
      let k : y * S ≤ Q * h = omega arith in
      let k1 : C * (y * S) ≤ C * (Q * h) = mul-le-mul_left C k in
      let last : C * y / (100 * h) * (100 * S) * h ≤ C * Q * h = omega arith in
      le_of_mul-le-mul_right last hpos

  rounded_least : scale * S ≤ h * D + n * S → C * n ≤ t * (100 * h) → C * Q ≤ C * y / (100 * h) * (100 * S) + (t + 1) * (100 * S)
  rounded_least least small =
      let f : C * y < C * y / (100 * h) * (100 * h) + 100 * h = lt-div-mul-add (omega arith) in
      let g : C * y * S ≤ (C * y / (100 * h) * (100 * h) + 100 * h) * S = mul-le-mul_right S (omega arith) in
      let e1 : h * S ≡ (scale + y) * S = ap (λ (z : ℕ). z * S) eh in
      let e2 : h * S ≡ h * (D + Q) = ap (λ (z : ℕ). h * z) es in
      let k : Q * h ≤ y * S + n * S = omega arith in
      let k1 : C * (Q * h) ≤ C * (y * S + n * S) = mul-le-mul_left C k in
      let k2 : C * n * S ≤ t * (100 * h) * S = mul-le-mul_right S small in
      let last : C * Q * h ≤ (C * y / (100 * h) * (100 * S) + (t + 1) * (100 * S)) * h = omega arith in
      le_of_mul-le-mul_right last hpos

-- the same over any other fraction N / E that is S / D
module _ (S D N E Q P C : ℕ) (dpos : 0 < D) (es : S ≡ D + Q) (en : N ≡ E + P) (same : N * D ≡ S * E) where
  parts : P * D ≡ Q * E
  parts =
      let e1 : N * D ≡ (E + P) * D = ap (λ (z : ℕ). z * D) en in
      let e2 : S * E ≡ (D + Q) * E = ap (λ (z : ℕ). z * E) es in
      omega arith

  move_most : (a : ℕ) → a * S ≤ C * Q → a * N ≤ C * P
  move_most a h =
      let u : a * S * E ≤ C * Q * E = mul-le-mul_right E h in
      let v : a * (N * D) ≡ a * (S * E) = ap (λ (z : ℕ). a * z) same in
      let w : C * (P * D) ≡ C * (Q * E) = ap (λ (z : ℕ). C * z) parts in
      let k : a * N * D ≤ C * P * D = omega arith in
      le_of_mul-le-mul_right k dpos

  move_least : (a : ℕ) → C * Q ≤ a * S → C * P ≤ a * N
  move_least a h =
      let u : C * Q * E ≤ a * S * E = mul-le-mul_right E h in
      let v : a * (N * D) ≡ a * (S * E) = ap (λ (z : ℕ). a * z) same in
      let w : C * (P * D) ≡ C * (Q * E) = ap (λ (z : ℕ). C * z) parts in
      let k : C * P * D ≤ a * N * D = omega arith in
      le_of_mul-le-mul_right k dpos

-- the sum by fractions is at least 1, and its parts are above 0
sum_pos : (x d n : ℕ) → 0 < d → let w = sum_to n (x over d) in (0 < w.den) × (w.den ≤ w.num)
unfolding sum_to factorial
sum_pos x d zero pos = rw (pow-zero x, pow-zero d) (omega arith)
sum_pos x d (suc n) pos =
    let w = sum_to n (x over d) in
    let it = sum_pos x d n pos in
    let q = d ^ suc n * (suc n * factorial n) in
    let qpos : 0 < q = rw (← bottom_is d (suc n)) (bottom_pos d (suc n) pos) in
    (mul-pos it.0 qpos, let k : w.den * q ≤ w.num * q = mul-le-mul_right q it.1 in omega arith)

-- the rounded answer is near C/100·(1 − 1/W)
pub near_sum : (scale x d n C t : ℕ) → 0 < scale → 0 < d → C * n ≤ t * (100 * scale) → let h = horner scale x d 0 n in let w = sum_to n (x over d) in Near (t + 1) (C * (h - scale) / (100 * h)) (C * (w.num - w.den) over 100 * w.num)
near_sum scale x d n C t opos dpos small =
    let h = horner scale x d 0 n in
    let w = sum_to n (x over d) in
    let S = sums x d n in
    let D = bottom d n in
    let least1 : scale ≤ h = horner_scale scale x d 0 n in
    let most : h * D ≤ scale * S = rw (bottom_is_above d n, sums_is_top x d n) (horner_most scale x d 0 n) in
    let least : scale * S ≤ h * D + n * S = rw (bottom_is_above d n, sums_is_top x d n) (horner_least scale x d 0 n dpos) in
    let ds : D ≤ S = rw (bottom_is_above d n, sums_is_top x d n) (top_least x d 0 n) in
    let ws = sum_pos x d n dpos in
    let hpos : 0 < h = omega arith in
    let eh : h ≡ scale + (h - scale) = omega arith in
    let es : S ≡ D + (S - D) = omega arith in
    let en : w.num ≡ w.den + (w.num - w.den) = omega (arith, ws.1) in
    let small1 : C * n ≤ t * (100 * h) = le_trans small (mul-le-mul_left t (omega arith)) in
    let r = C * (h - scale) / (100 * h) in
    let up : r * (100 * S) ≤ C * (S - D) = rounded_most S D h scale n C t (h - scale) (S - D) hpos eh es most in
    let down : C * (S - D) ≤ r * (100 * S) + (t + 1) * (100 * S) = rounded_least S D h scale n C t (h - scale) (S - D) hpos eh es least small1 in
    let up1 : r * 100 * w.num ≤ C * (w.num - w.den) = move_most S D w.num w.den (S - D) (w.num - w.den) C (bottom_pos d n dpos) es en (sum_is x d n) (r * 100) (omega (arith, up)) in
    let down1 : C * (w.num - w.den) ≤ (r * 100 + (t + 1) * 100) * w.num = move_least S D w.num w.den (S - D) (w.num - w.den) C (bottom_pos d n dpos) es en (sum_is x d n) (r * 100 + (t + 1) * 100) (omega (arith, down)) in
    let last : (r N F : ℕ) → 0 < N → r * 100 * N ≤ F → F ≤ (r * 100 + (t + 1) * 100) * N → Near (t + 1) r (F over 100 * N) =
    λ r N F p u v. record { proper = omega arith; not_above = omega arith; not_below = omega arith } in
    last r w.num (C * (w.num - w.den)) (omega (arith, ws.0, ws.1)) up1 down1
