-- The resistance along a shaft, and how great it can be.
use Rattle.std.proofs.Common.{◌≡◌, ℕ, ◌+◌, ◌-◌, ◌*◌, ◌≤◌, min, Bool, cond, false, ltb, List, [], ◌∷◌, true, not, ◌⊎◌, refl, ap, inl, inr, mul-le-mul, mul-le-mul_left, arith}
use Rattle.std.proofs.lemmas.Bool.{and_parts}
use Rattle.terms.specs.Limits.{outside, friction_limits}
use Rattle.ground.specs.declared.layer.Layer.{Layer}
use Rattle.ground.specs.Layers.{depth}
use Rattle.pile.specs.Frictions.{all_moderate}
use Rattle.pile.specs.Shaft.{ShaftPart, parts_above, shaft_resistance}
use Rattle.pile.proofs.Bounds.{moderate_at}

-- what the parts reach down
abbrev pub heights : List ShaftPart → ℕ
heights [] = 0
heights (s ∷ ss) = s.height + heights ss

-- down to the depth, or to the ground's end
pub heights_fill : (d : ℕ) (ls : List Layer) → heights (parts_above d ls) ≡ min d (depth ls)
heights_fill d [] = omega arith
heights_fill d (l ∷ ls) = by_depth (ltb 0 d) refl (heights_fill (d - l.thickness) ls)
  where
    by_depth : (b : Bool) → ltb 0 d ≡ b → heights (parts_above (d - l.thickness) ls) ≡ min (d - l.thickness) (depth ls) → heights (cond b (record { height = min l.thickness d; layer = l } ∷ parts_above (d - l.thickness) ls) []) ≡ min d (l.thickness + depth ls)
    by_depth true e rest = omega (arith, rest)
    by_depth false e rest = grind arith

-- the uppermost part and the first friction apart
pub shaft_turn : (P sum whole : ℕ) (s : ShaftPart) (q : ℕ) (zs ss : List ShaftPart) (ys qs : List ℕ) → zs ≡ s ∷ ss → ys ≡ q ∷ qs
    → sum + shaft_resistance P zs ys ≡ whole → sum + P * s.height * q + shaft_resistance P ss qs ≡ whole
shaft_turn P sum whole s q zs ss ys qs a b h = omega (arith, rw (a, b) at h)

-- no part or no friction is left
pub shaft_end : (P : ℕ) (ss : List ShaftPart) (qs : List ℕ) → (ss ≡ []) ⊎ (qs ≡ []) → shaft_resistance P ss qs ≡ 0
shaft_end P ss qs (inl a) = ap (λ zs. shaft_resistance P zs qs) a
shaft_end P [] qs (inr b) = refl
shaft_end P (s ∷ ss) qs (inr b) = ap (shaft_resistance P (s ∷ ss)) b

-- at most what the greatest friction adds on all heights
along_most : (P : ℕ) (ss : List ShaftPart) (qs : List ℕ) → all_moderate qs ≡ true → shaft_resistance P ss qs ≤ 500000 * (P * heights ss)
along_most P [] qs k = omega arith
along_most P (s ∷ ss) [] k = omega arith
along_most P (s ∷ ss) (q ∷ qs) k =
    let small : q ≤ 500000 = moderate_at (q ∷ qs) 0 0 (omega arith) k in
    let part : P * s.height * q ≤ P * s.height * 500000 = mul-le-mul_left (P * s.height) small in
    let rest = along_most P ss qs (and_parts (not (outside friction_limits q)) (all_moderate qs) k).1 in
    let product : P * (s.height + heights ss) ≡ P * s.height + P * heights ss = omega arith in
    omega (arith, part, rest, product)

-- the greatest perimeter, length and friction
pub shaft_most : (P d : ℕ) (ls : List Layer) (qs : List ℕ) → P ≤ 10000 → d ≤ 25000 → all_moderate qs ≡ true → shaft_resistance P (parts_above d ls) qs ≤ 125000000000000
shaft_most P d ls qs p l k =
    let deep : heights (parts_above d ls) ≤ 25000 = omega (arith, heights_fill d ls, l) in
    omega (arith, along_most P (parts_above d ls) qs k, mul-le-mul p deep)
