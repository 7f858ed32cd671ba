-- The integral of the pressure, a layer at a time, and how great it can be.
use Rattle.std.proofs.Common.{◌≡◌, ℕ, zero, suc, ◌+◌, ◌-◌, ◌*◌, ◌<◌, ◌≤◌, min, true, ltb, List, [], ◌∷◌, length, get_or, drop, refl, ap, ◌∙◌, inl, inr, mul-le-mul, arith}
use Rattle.std.proofs.lemmas.List.{at_drop_more, at_drop_all}
use Rattle.std.proofs.lemmas.Bool.{and_parts, cases_lt, cond-true, cond-false, lt-ltb, le-ltb, cond_both}
use Rattle.ground.specs.declared.layer.Layer.{Layer}
use Rattle.ground.specs.Layers.{fit, sound, depth}
use Rattle.ground.specs.Edits.{no_layer}
use Rattle.ground.proofs.Tables.{sound_at}
use Rattle.pile.specs.Pressure.{pressure_at, sum_over, integral}
use Rattle.pile.proofs.Bounds.{layer_bounds}

pub sum_none : (f : ℕ → ℕ) (a : ℕ) → sum_over f a 0 ≡ 0
unfolding sum_over
sum_none f a = refl

sum_more : (f : ℕ → ℕ) (a n : ℕ) → sum_over f a (suc n) ≡ f a + sum_over f (suc a) n
unfolding sum_over
sum_more f a n = refl

pub sum_most : (f : ℕ → ℕ) (c : ℕ) → ((z : ℕ) → f z ≤ c) → (a n : ℕ) → sum_over f a n ≤ c * n
sum_most f c h a zero = omega (arith, sum_none f a)
sum_most f c h a (suc n) = omega (arith, sum_more f a n, h a, sum_most f c h (suc a) n)

sum_same : (f : ℕ → ℕ) (a b m n : ℕ) → a ≡ b → m ≡ n → sum_over f a m ≡ sum_over f b n
sum_same f a b m n p q = cc

layer_off : (l : Layer) (ls : List Layer) (a n : ℕ)
    → sum_over (pressure_at (l ∷ ls)) a n
    ≡ l.pressure * (min (a + n) l.thickness - min a l.thickness)
    + sum_over (pressure_at ls) (a - l.thickness) ((a + n - l.thickness) - (a - l.thickness))
layer_off l ls a zero =
    let t = l.thickness in
    let g = pressure_at ls in
    let none = sum_none (pressure_at (l ∷ ls)) a in
    let same = sum_same g (a - t) (a - t) ((a + 0 - t) - (a - t)) 0 refl (omega arith) in
    let zeros = sum_none g (a - t) in
    let nothing : min (a + 0) t - min a t ≡ 0 = omega arith in
    let free = ap (λ x. l.pressure * x) nothing in
    omega arith
layer_off l ls a (suc n) = elim (cases_lt a l.thickness) [
  | inl h ↦
      let t = l.thickness in
      let g = pressure_at ls in
      let here : pressure_at (l ∷ ls) a ≡ l.pressure = cond-true _ _ _ (lt-ltb a t h) in
      let first = sum_more (pressure_at (l ∷ ls)) a n in
      let rest = layer_off l ls (suc a) n in
      let same = sum_same g (suc a - t) (a - t) ((suc a + n - t) - (suc a - t)) ((a + suc n - t) - (a - t)) (omega arith) (omega arith) in
      let one : min (a + suc n) t - min a t ≡ 1 + (min (suc a + n) t - min (suc a) t) = omega arith in
      let more = ap (λ x. l.pressure * x) one in
      omega arith
  | inr h ↦
      let t = l.thickness in
      let g = pressure_at ls in
      let here : pressure_at (l ∷ ls) a ≡ g (a - t) = cond-false _ _ _ (le-ltb a t h) in
      let first = sum_more (pressure_at (l ∷ ls)) a n in
      let rest = layer_off l ls (suc a) n in
      let count = sum_same g (a - t) (a - t) ((a + suc n - t) - (a - t)) (suc n) refl (omega arith) in
      let next = sum_more g (a - t) n in
      let same = sum_same g (suc a - t) (suc (a - t)) ((suc a + n - t) - (suc a - t)) n (omega arith) (omega arith) in
      let none : min (a + suc n) t - min a t ≡ 0 = omega arith in
      let none-now = ap (λ x. l.pressure * x) none in
      let still : min (suc a + n) t - min (suc a) t ≡ 0 = omega arith in
      let none-still = ap (λ x. l.pressure * x) still in
      omega arith
]

-- the uppermost layer apart, and the rest with depths from its bottom
pub integral_layer : (l : Layer) (ls : List Layer) (from to : ℕ) → from ≤ to
    → integral (l ∷ ls) from to
    ≡ l.pressure * (min to l.thickness - min from l.thickness) + integral ls (from - l.thickness) (to - l.thickness)
integral_layer l ls from to h =
    let whole : from + (to - from) ≡ to = omega arith in
    rw whole at (layer_off l ls from (to - from))

pub integral_nothing : (from n : ℕ) → sum_over (pressure_at []) from n ≡ 0
integral_nothing from zero = sum_none (pressure_at []) from
integral_nothing from (suc n) = omega (arith, sum_more (pressure_at []) from n, integral_nothing (suc from) n)

pub integral_empty : (ls : List Layer) (from to : ℕ) → to ≤ from → integral ls from to ≡ 0
integral_empty ls from to h = sum_same (pressure_at ls) from from (to - from) 0 refl (omega arith) ∙ sum_none (pressure_at ls) from

pub pressure_most : (ls : List Layer) → sound ls ≡ true → (z : ℕ) → pressure_at ls z ≤ 10000
pressure_most [] h z = omega arith
pressure_most (l ∷ ls) h z =
    let p = and_parts (fit l) (sound ls) h in
    cond_both (ltb z l.thickness) l.pressure (pressure_at ls (z - l.thickness)) (λ x. x ≤ 10000) (λ e. (layer_bounds l p.0).pressure.1) (λ e. pressure_most ls p.1 (z - l.thickness))

pub integral_most : (ls : List Layer) (from to : ℕ) → sound ls ≡ true → integral ls from to ≤ 10000 * (to - from)
integral_most ls from to h = sum_most (pressure_at ls) 10000 (pressure_most ls h) from (to - from)

-- the layer of one index apart, its two depths and the next ones told by equal numbers
pub integral_again : (ls : List Layer) (i above below sum whole m n a b : ℕ) → i < length ls → above ≤ below
    → m ≡ min below (get_or ls i no_layer).thickness
    → n ≡ min above (get_or ls i no_layer).thickness
    → a ≡ above - (get_or ls i no_layer).thickness
    → b ≡ below - (get_or ls i no_layer).thickness
    → sum + integral (drop i ls) above below ≡ whole
    → sum + (get_or ls i no_layer).pressure * (m - n) + integral (drop (i + 1) ls) a b ≡ whole
integral_again ls i above below sum whole m n a b h k em en ea eb s =
    let l = get_or ls i no_layer in
    let rest = drop (i + 1) ls in
    let step = at_drop_more (λ zs. integral zs above below) ls i no_layer h ∙ integral_layer l rest above below k in
    let part : l.pressure * (m - n) ≡ l.pressure * (min below l.thickness - min above l.thickness) = cc in
    let left : integral rest a b ≡ integral rest (above - l.thickness) (below - l.thickness) = cc in
    omega arith

-- past the last layer
pub integral_end : (ls : List Layer) (i above below : ℕ) → length ls ≤ i → integral (drop i ls) above below ≡ 0
integral_end ls i above below h = at_drop_all (λ zs. integral zs above below) ls i h ∙ integral_nothing above (below - above)

-- what one layer adds is at most what the greatest pressure adds on its thickness
pub integral_size : (ls : List Layer) (i sum m n : ℕ) → i < length ls → sound ls ≡ true → m ≤ (get_or ls i no_layer).thickness
    → sum + 10000 * depth (drop i ls) ≤ 10000 * depth ls
    → sum + (get_or ls i no_layer).pressure * (m - n) + 10000 * depth (drop (i + 1) ls) ≤ 10000 * depth ls
integral_size ls i sum m n h f t s =
    let l = get_or ls i no_layer in
    let step : depth (drop i ls) ≡ l.thickness + depth (drop (i + 1) ls) = at_drop_more depth ls i no_layer h in
    let small = (layer_bounds l (sound_at ls i no_layer h f)).pressure.1 in
    let part : l.pressure * (m - n) ≤ 10000 * l.thickness = mul-le-mul small (omega arith) in
    omega arith
