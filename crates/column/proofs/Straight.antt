-- A curve over whole displacements, drawn straight between them, and taken k times at the displacement d / k.
use Rattle.std.proofs.Common.{◌≡◌, ℕ, ◌+◌, ◌-◌, ◌*◌, ◌/◌, ◌<◌, ◌≤◌, ap, ◌∙◌, mul-le-mul_right, mul-le-mul_left, div-mul-le_self, arith}
use native.Mathlib.Nat.{div-eq_of_lt-le, div-eq_of_eq-mul_right, lt-div-mul-add, le_of_mul-le-mul_left}
use native.Mathlib.Decide.{dec_le}
use Rattle.column.specs.Rounding.{ceil}
use Rattle.column.proofs.Rounding.{ceil_reaches}

-- d / k lies between m and m + 1
pub record Cell (k d m : ℕ) : Type 0 where
  pub scale : 0 < k
  pub least : k * m ≤ d
  pub most : d ≤ k * (m + 1)

pub starts : {k d m : ℕ} → 0 < k → d ≡ k * m → Cell k d m
starts p e = record { scale = p; least = omega arith; most = omega arith }

pub ends : {k d m : ℕ} → 0 < k → d ≡ k * (m + 1) → Cell k d m
ends p e = record { scale = p; least = omega arith; most = omega arith }

unfoldable pub between : (ℕ → ℕ) → ℕ → ℕ → ℕ → ℕ
between f k d m = k * f m + (d - k * m) * (f (m + 1) - f m)

abbrev pub along : (ℕ → ℕ) → ℕ → ℕ → ℕ
along f k d = between f k d (d / k)

-- .. with the part e past m, and the rise w
between_is : (f : ℕ → ℕ) (k d m e w : ℕ) → d ≡ k * m + e → f (m + 1) ≡ f m + w → between f k d m ≡ k * f m + e * w
unfolding between
between_is f k d m e w p r =
    let past : d - k * m ≡ e = omega arith in
    let rise : f (m + 1) - f m ≡ w = omega arith in
    rw (past, rise)

pub in_own : (k d : ℕ) → 0 < k → Cell k d (d / k)
in_own k d p = record { scale = p; least = omega (arith, div-mul-le_self d k); most = omega (arith, lt-div-mul-add {a = d} p) }

weighed : (α β k l m e u : ℕ) {c d : ℕ} → c ≡ k * m + e → d ≡ l * m + u → α * c + β * d ≡ (α * k + β * l) * m + (α * e + β * u)
weighed α β k l m e u p r = omega (arith, ap (λ (x : ℕ). α * x) p, ap (λ (x : ℕ). β * x) r)

steeper : (k l m e u v w : ℕ) → (k * m + e) * l ≤ (l * m + u) * k → (k * v + e * w) * l ≤ (l * v + u * w) * k
steeper k l m e u v w h =
    let part : e * l ≤ u * k = omega arith in
    omega (arith, mul-le-mul_right w part)

module _ (f : ℕ → ℕ) (up : (s t : ℕ) → s ≤ t → f s ≤ f t) where
  rises : (m : ℕ) → f (m + 1) ≡ f m + (f (m + 1) - f m)
  rises m = omega (arith, up m (m + 1) (omega arith))

  -- the same from the cell on either side
  pub same : (k d m : ℕ) → Cell k d m → along f k d ≡ between f k d m
  same k d m h = elim (dec_le (k * (m + 1)) d) [
    | yes far ↦
        (let at : d ≡ k * (m + 1) = omega (arith, h.most) in
        let one : d / k ≡ m + 1 = div-eq_of_eq-mul_right h.scale at in
        let w = f (m + 1) - f m in
        let here : between f k d (m + 1) ≡ k * f (m + 1) + 0 * (f (m + 1 + 1) - f (m + 1)) =
        between_is f k d (m + 1) 0 (f (m + 1 + 1) - f (m + 1)) (omega arith) (rises (m + 1)) in
        let there : between f k d m ≡ k * f m + k * w = between_is f k d m k w (omega arith) (rises m) in
        ap (between f k d) one ∙ omega (arith, ap (λ (x : ℕ). k * x) (rises m)))
    | no near ↦ ap (between f k d) (div-eq_of_lt-le k (omega (arith, h.least)) (omega arith))
  ]

  pub least : (k d m : ℕ) → Cell k d m → k * f (d / k) ≤ between f k d m
  least k d m h =
      let own = in_own k d h.scale in
      let is : between f k d (d / k) ≡ k * f (d / k) + (d - k * (d / k)) * (f (d / k + 1) - f (d / k)) =
      between_is f k d (d / k) (d - k * (d / k)) (f (d / k + 1) - f (d / k)) (omega (arith, own.least)) (rises (d / k)) in
      omega (arith, same k d m h)

  pub most : (k d m t : ℕ) → Cell k d m → d ≤ t → between f k d m ≤ k * f (ceil t k)
  most k d m t h more =
      let e = d - k * m in
      let w = f (m + 1) - f m in
      let is : between f k d m ≡ k * f m + e * w = between_is f k d m e w (omega (arith, h.least)) (rises m) in
      let reach : t ≤ k * ceil t k = ceil_reaches t k h.scale in
      elim (dec_le (m + 1) (ceil t k)) [
        | yes far ↦
            (let part : e ≤ k = omega (arith, h.most) in
            omega (arith, mul-le-mul_right w part, ap (λ (x : ℕ). k * x) (rises m), mul-le-mul_left k (up (m + 1) (ceil t k) far)))
        | no near ↦
            (let short : ceil t k ≤ m = omega arith in
            let none : e ≤ 0 = omega (arith, h.least, mul-le-mul_left k short) in
            let inside : m ≤ ceil t k = le_of_mul-le-mul_left (omega (arith, h.least)) h.scale in
            omega (arith, mul-le-mul_right w none, mul-le-mul_left k (up m (ceil t k) inside)))
      ]

  pub linear : (α β k l c d m : ℕ) → Cell k c m → Cell l d m → between f (α * k + β * l) (α * c + β * d) m ≡ α * between f k c m + β * between f l d m
  linear α β k l c d m h g =
      let e = c - k * m in
      let u = d - l * m in
      let w = f (m + 1) - f m in
      let e-is : c ≡ k * m + e = omega (arith, h.least) in
      let u-is : d ≡ l * m + u = omega (arith, g.least) in
      let one = between_is f k c m e w e-is (rises m) in
      let two = between_is f l d m u w u-is (rises m) in
      let all = between_is f (α * k + β * l) (α * c + β * d) m (α * e + β * u) w (weighed α β k l m e u e-is u-is) (rises m) in
      omega (arith, ap (λ (x : ℕ). α * x) one, ap (λ (x : ℕ). β * x) two)

  pub rising : (k l c d m : ℕ) → Cell k c m → Cell l d m → c * l ≤ d * k → between f k c m * l ≤ between f l d m * k
  rising k l c d m h g less =
      let e = c - k * m in
      let u = d - l * m in
      let w = f (m + 1) - f m in
      let e-is : c ≡ k * m + e = omega (arith, h.least) in
      let u-is : d ≡ l * m + u = omega (arith, g.least) in
      let one = between_is f k c m e w e-is (rises m) in
      let two = between_is f l d m u w u-is (rises m) in
      rw (one, two) (steeper k l m e u (f m) w (rw (← e-is, ← u-is) less))

  -- at whole displacements
  pub at_whole : (m : ℕ) → between f 1 m m ≡ f m
  at_whole m = omega (arith, between_is f 1 m m 0 (f (m + 1) - f m) (omega arith) (rises m))

  pub at_next : (m : ℕ) → between f 1 (m + 1) m ≡ f (m + 1)
  at_next m = omega (arith, between_is f 1 (m + 1) m 1 (f (m + 1) - f m) (omega arith) (rises m), rises m)

pub cells : (α β k l c d m : ℕ) → Cell k c m → Cell l d m → 0 < α * k + β * l → Cell (α * k + β * l) (α * c + β * d) m
cells α β k l c d m h g p = record {
  scale = p;
  least = omega (arith, mul-le-mul_left α h.least, mul-le-mul_left β g.least);
  most = omega (arith, mul-le-mul_left α h.most, mul-le-mul_left β g.most);
}
