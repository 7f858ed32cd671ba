-- What depth and soundness become under one change.
use Rattle.std.proofs.Common.{◌≡◌, ℕ, zero, suc, ◌+◌, ◌<◌, ◌≤◌, true, false, List, [], ◌∷◌, ◌++◌, length, get_or, take, set, sum_by, refl, ap, arith}
use Rattle.std.specs.List.{All}
use Rattle.std.proofs.lemmas.List.Elements.{All-push, All-set, All-take}
use Rattle.std.proofs.lemmas.List.Recursion.{is_sum_by, and_at, and_from_places}
use Rattle.std.proofs.lemmas.List.Sums.{sum_by_push, sum_by-take-le}
use Rattle.ground.specs.declared.layer.Layer.{Layer}
use Rattle.terms.specs.Limits.{outside, pressure_limits, modulus_limits}
use Rattle.ground.specs.Layers.{depth, sound, fit}
use Rattle.ground.specs.Edits.{no_layer, revised}

-- the depth as the library's sum
pub depth_sum : (ls : List Layer) → depth ls ≡ sum_by (λ l. l.thickness) ls
depth_sum = is_sum_by depth (λ l. l.thickness) refl (λ l ls. refl)

pub depth_push : (ls : List Layer) (l : Layer) → depth (ls ++ l ∷ []) ≡ depth ls + l.thickness
depth_push ls l = omega (arith, depth_sum ls, depth_sum (ls ++ l ∷ []), sum_by_push (λ l. l.thickness) ls l)

pub depth_take : (n : ℕ) (ls : List Layer) → depth (take n ls) ≤ depth ls
depth_take n ls = omega (arith, depth_sum ls, depth_sum (take n ls), sum_by-take-le (λ l. l.thickness) ls n)

pub depth_set : (ls : List Layer) (i : ℕ) (l d : Layer) → l.thickness ≡ (get_or ls i d).thickness → depth (set ls i l) ≡ depth ls
depth_set [] i l d e = refl
depth_set (k ∷ ls) zero l d e = ap (λ n. n + depth ls) e
depth_set (k ∷ ls) (suc i) l d e = ap (λ n. k.thickness + n) (depth_set ls i l d e)

-- soundness as the library's word: each layer is fit
abbrev Fit : Layer → Type 0
Fit l = fit l ≡ true

each : (ls : List Layer) → sound ls ≡ true → All Fit ls
each ls h i d inside = and_at sound fit refl (λ l ls. refl) ls i d inside h

all : (ls : List Layer) → All Fit ls → sound ls ≡ true
all ls h = and_from_places sound fit refl (λ l ls. refl) ls no_layer (λ i. h i no_layer)

pub sound_push : (ls : List Layer) (l : Layer) → sound ls ≡ true → fit l ≡ true → sound (ls ++ l ∷ []) ≡ true
sound_push ls l h f = all (ls ++ l ∷ []) (All-push Fit ls l (each ls h) f)

pub sound_take : (n : ℕ) (ls : List Layer) → sound ls ≡ true → sound (take n ls) ≡ true
sound_take n ls h = all (take n ls) (All-take Fit n ls (each ls h))

pub sound_set : (ls : List Layer) (i : ℕ) (l : Layer) → sound ls ≡ true → fit l ≡ true → sound (set ls i l) ≡ true
sound_set ls i l h f = all (set ls i l) (All-set Fit ls i l f (each ls h))

pub sound_at : (ls : List Layer) (i : ℕ) (d : Layer) → i < length ls → sound ls ≡ true → fit (get_or ls i d) ≡ true
sound_at ls i d inside h = each ls h i d inside

pub fit_revised : (l : Layer) (p m : ℕ) → fit l ≡ true → outside pressure_limits p ≡ false → outside modulus_limits m ≡ false → fit (revised l p m) ≡ true
fit_revised l p m h e f = grind arith
