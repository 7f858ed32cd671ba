-- From the relation to its places, and from pieces to the whole.
use Rattle.std.proofs.Common.{◌≡◌, ℕ, ◌≤◌, List, [], ◌∷◌, ◌++◌, length, get_or, drop, Some, None, sym, refl, ap, ◌∙◌, subst, inl, inr, arith}
use Rattle.std.proofs.lemmas.List.{length-drop}
use Rattle.terms.specs.declared.refusal.Refusal.{Refusal}
use Rattle.friction.specs.Rule.{Agrees}
use Rattle.calls.specs.declared.Answer.{Answer}
use Rattle.study.specs.Sites.{Site, Plain, bare, change_refusal, changed}
use Rattle.study.specs.Sites.Plain.{Lay, Amend, Lift, Drive, Judge}
use Rattle.study.specs.Rules.{Meaning}
use Rattle.story.specs.Story.{refusal_of, Granted, Denied, Fair, Step, Told}
use Rattle.story.specs.Story.Told.{over, granted, denied}
use Rattle.story.specs.Places.{unless, after, left_by, Answered, Lived}
use Rattle.story.proofs.Grants.{free}

-- a list cut twice
cut : {X : Type 0} (xs ys ps qs : List X) → xs ++ ys ≡ ps ++ qs → length xs ≤ length ps → (ps ≡ xs ++ drop (length xs) ps) × (ys ≡ drop (length xs) ps ++ qs)
cut [] ys ps qs e h = (refl, e)
cut (x ∷ xs) ys [] qs e h = absurd (omega arith)
cut (x ∷ xs) ys (p ∷ ps) qs e h =
    let same : x ≡ p = cc in
    let rest : xs ++ ys ≡ ps ++ qs = cc in
    let r = cut xs ys ps qs rest (omega arith) in
    let front : ps ≡ xs ++ drop (length xs) ps = r.0 in
    let whole : p ∷ ps ≡ x ∷ (xs ++ drop (length xs) ps) = cc in
    (whole, r.1)

pub left_by_append : (s : Site) (xs ys : List Plain) → left_by s (xs ++ ys) ≡ left_by (left_by s xs) ys
left_by_append s [] ys = refl
left_by_append s (x ∷ xs) ys = left_by_append (after s x) xs ys

-- two pieces, the second told where the first left, are one story
pub join : (m : Meaning) {s u t : Site} {xs ys : List Plain} {as₁ as₂ : List Answer} → Told m s xs as₁ u → Told m u ys as₂ t → Told m s (xs ++ ys) (as₁ ++ as₂) t
join m over q = q
join m (granted g p) q = granted g (join m p q)
join m (denied d p) q = denied d (join m p q)

pub told_one : (m : Meaning) (s : Site) (c : Plain) (a : Answer) (t : Site) → Step m s c a t → Told m s (c ∷ []) (a ∷ []) t
told_one m s c a t (inl g) = granted g.0 (subst (λ x. Told m (changed s c) [] [] x) (sym g.1) over)
told_one m s c a t (inr d) = denied d.0 (subst (λ x. Told m s [] [] x) (sym d.1) over)

module _ (m : Meaning) where
  change_free : (s : Site) (c : Plain) → refusal_of m s c ≡ None → change_refusal s c ≡ None
  change_free s (Lay l) e = e
  change_free s (Amend i p k) e = e
  change_free s Lift e = e
  change_free s (Drive n) e = e
  change_free s (Judge q) e = refl

  after_refused : (s : Site) (c : Plain) (r : Refusal) → refusal_of m s c ≡ Some r → after s c ≡ s
  after_refused s (Lay l) r e = ap (λ o. unless o (changed s (Lay l)) s) e
  after_refused s (Amend i p k) r e = ap (λ o. unless o (changed s (Amend i p k)) s) e
  after_refused s Lift r e = ap (λ o. unless o (changed s Lift) s) e
  after_refused s (Drive n) r e = ap (λ o. unless o (changed s (Drive n)) s) e
  after_refused s (Judge q) r e = refl

  stays : (s : Site) (c : Plain) (a : Answer) → Denied m s c a → s ≡ after s c
  stays s c a d = sym (after_refused s c d.refusal d.first)

  module _ (agrees : (soil category p : ℕ) → Agrees m.tolerance (m.fraction soil category p) (m.answer soil category p)) where
    goes_on : (s : Site) (c : Plain) (a : Answer) → Granted m s c a → changed s c ≡ after s c
    goes_on s c a g = sym (ap (λ o. unless o (changed s c) s) (change_free s c (free m agrees s c g.allowed)))

    pub leaves : {s t : Site} {calls : List Plain} {answers : List Answer} → Told m s calls answers t → t ≡ left_by s calls
    leaves over = refl
    leaves (granted {s = s} {c = c} {a = a} {calls = calls} g told) = leaves told ∙ ap (λ x. left_by x calls) (goes_on s c a g)
    leaves (denied {s = s} {c = c} {a = a} {calls = calls} d told) = leaves told ∙ ap (λ x. left_by x calls) (stays s c a d)

    pub placed : {s t : Site} {calls : List Plain} {answers : List Answer} → Told m s calls answers t
        → (earlier : List Plain) (c : Plain) (later : List Plain) (d : Answer) → calls ≡ earlier ++ c ∷ later → Fair m (left_by s earlier) c (get_or answers (length earlier) d)
    placed over [] c later d e = cc
    placed over (b ∷ earlier) c later d e = cc
    placed (granted {s = s} {c = k} {a = a} g told) [] c later d e =
        let same : k ≡ c = cc in
        subst (λ (x : Plain). Fair m s x a) same (inl g)
    placed (granted {s = s} {c = k} {a = a} {calls = calls} {answers = answers} g told) (b ∷ earlier) c later d e =
        let same : k ≡ b = cc in
        let rest : calls ≡ earlier ++ c ∷ later = cc in
        subst (λ (x : Site). Fair m (left_by x earlier) c (get_or answers (length earlier) d)) (goes_on s k a g ∙ ap (after s) same) (placed told earlier c later d rest)
    placed (denied {s = s} {c = k} {a = a} g told) [] c later d e =
        let same : k ≡ c = cc in
        subst (λ (x : Plain). Fair m s x a) same (inr g)
    placed (denied {s = s} {c = k} {a = a} {calls = calls} {answers = answers} g told) (b ∷ earlier) c later d e =
        let same : k ≡ b = cc in
        let rest : calls ≡ earlier ++ c ∷ later = cc in
        subst (λ (x : Site). Fair m (left_by x earlier) c (get_or answers (length earlier) d)) (stays s k a g ∙ ap (after s) same) (placed told earlier c later d rest)

  -- with the earlier life of the study
  pub lived : (first : Site) (calls : List Plain) (answers : List Answer) → Answered m first calls answers → Lived m first calls answers
  lived first calls answers answered before earlier c later d e cutting long =
      let r = cut before calls earlier (c ∷ later) cutting long in
      let inner = drop (length before) earlier in
      let site : left_by first inner ≡ left_by bare earlier = ap (λ s. left_by s inner) (sym e) ∙ sym (left_by_append bare before inner) ∙ ap (left_by bare) (sym r.0) in
      let base = answered inner c later d r.1 in
      let there = subst (λ (x : Site). Fair m x c (get_or answers (length inner) d)) site base in
      subst (λ (n : ℕ). Fair m (left_by bare earlier) c (get_or answers n d)) (length-drop (length before) earlier) there
