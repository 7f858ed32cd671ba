-- The slices of a part, one after another.
use Rattle.std.proofs.Common.{◌≡◌, ℕ, zero, suc, ◌+◌, ◌-◌, ◌/◌, ◌<◌, min, true, List, [], ◌∷◌, ◌++◌, length, get_or, sym, refl, ap, ◌∙◌, le_of_suc-le-suc, not-suc-le-zero, add-one, arith}
use native.Mathlib.Nat.{add-div_right, div-eq_of_lt}
use native.Mathlib.Decide.{dec_le}
use Rattle.column.specs.declared.Part.{Part}
use Rattle.column.specs.declared.Node.{Node}
use Rattle.column.specs.Rounding.{ceil}
use Rattle.column.specs.Slices.{slice, pieces, cut_left}
use Rattle.shaft.specs.Room.{Contact, all_contacts}
use Rattle.march.specs.Sides.{head_over}

ceil_zero : (step : ℕ) → 0 < step → ceil 0 step ≡ 0
ceil_zero step pos = div-eq_of_lt (omega arith)

ceil_more : (step left : ℕ) → 0 < step → 0 < left → ceil left step ≡ suc (ceil (left - step) step)
ceil_more step left pos some =
    let one : left + (step - 1) ≡ (left - 1) + step = omega arith in
    let up : ceil left step ≡ (left - 1) / step + 1 = ap (λ x. x / step) one ∙ add-div_right (left - 1) pos in
    let same : (left - 1) / step ≡ ceil (left - step) step =
    elim (dec_le step left) [
      | yes h ↦ ap (λ x. x / step) (omega arith)
      | no h ↦ div-eq_of_lt (omega arith) ∙ sym (div-eq_of_lt (omega arith))
    ] in
    up ∙ ap (λ x. x + 1) same ∙ add-one _

pub cut_none : (step : ℕ) (p : Part) → 0 < step → cut_left step 0 p ≡ []
cut_none step p pos = ap (λ k. pieces k step 0 p) (ceil_zero step pos)

pub cut_more : (step left h : ℕ) (p : Part) → 0 < step → 0 < left → h ≡ min step left → cut_left step left p ≡ slice h p ∷ cut_left step (left - h) p
cut_more step left h p pos some e =
    let more : ceil left step ≡ suc (ceil (left - step) step) = ceil_more step left pos some in
    let less : left - step ≡ left - h = omega arith in
    ap (λ k. pieces k step left p) more ∙ (rw (e, ← e, less))

pub head_append : (f : Part → Node → Node) (n : Node) (xs ys : List Part) → head_over f n (xs ++ ys) ≡ head_over f (head_over f n xs) ys
head_append f n [] ys = refl
head_append f n (x ∷ xs) ys = head_append f (f x n) xs ys

-- the part at a place
abbrev no_part : Part
no_part = record { height = 0; soil = 0; modulus = 0; friction = 0 }

abbrev pub at : List Part → ℕ → Part
at ps i = get_or ps i no_part

contact : (p : Part) (ps : List Part) → all_contacts (p ∷ ps) ≡ true → Contact p.soil p.modulus p.friction × (all_contacts ps ≡ true)
contact p ps h = grind arith

pub contact_at : (ps : List Part) (i : ℕ) → i < length ps → all_contacts ps ≡ true → Contact (at ps i).soil (at ps i).modulus (at ps i).friction
contact_at [] i h ks = absurd (not-suc-le-zero h)
contact_at (p ∷ ps) zero h ks = (contact p ps ks).0
contact_at (p ∷ ps) (suc i) h ks = contact_at ps i (le_of_suc-le-suc h) (contact p ps ks).1
