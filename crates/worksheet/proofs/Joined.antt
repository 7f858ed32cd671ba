-- A sheet in two pieces.
use Rattle.std.proofs.Common.{◌≡◌, ℕ, suc, ◌<◌, ◌⊎◌, List, [], ◌∷◌, ◌++◌, length, get_or, sym, refl, ap, ◌∙◌, subst, inl, inr, append_assoc, arith, length-append}
use Rattle.std.proofs.lemmas.List.{nil_from_length}
use Rattle.friction.specs.Rule.{Agrees}
use Rattle.friction.specs.declared.rule.FrictionRule.{Ghosts}
use Rattle.study.specs.Views.{meaning}
use Rattle.worksheet.specs.Cutting.{Cut}
use Rattle.worksheet.specs.Pieces.{WholeLines, PiecesJoin}
use Rattle.worksheet.proofs.Steps.{works_join}

-- what ends with a line feed has one at the end of each part that is not empty
ends : (xs front : List ℕ) (r : ℕ) (rs : List ℕ) → xs ++ (r ∷ rs) ≡ front ++ (10 ∷ []) → (f : List ℕ) × (r ∷ rs ≡ f ++ (10 ∷ []))
ends [] front r rs e = (front, e)
ends (x ∷ xs) [] r rs e = absurd (let n : suc (length (xs ++ (r ∷ rs))) ≡ 1 = ap length e in omega (arith, n, length-append xs (r ∷ rs)))
ends (x ∷ xs) (f ∷ front) r rs e = let rest : xs ++ (r ∷ rs) ≡ front ++ (10 ∷ []) = cc in ends xs front r rs rest

after_feed : (line rest : List ℕ) → WholeLines (line ++ (10 ∷ rest)) → WholeLines rest
after_feed line [] w = inl refl
after_feed line (r ∷ rest) (inl e) = absurd (omega (arith, ap length e, length-append line (10 ∷ (r ∷ rest))))
after_feed line (r ∷ rest) (inr w) =
    let whole : (line ++ (10 ∷ [])) ++ (r ∷ rest) ≡ w.0 ++ (10 ∷ []) = append_assoc line (10 ∷ []) (r ∷ rest) ∙ w.1 in
    inr (ends (line ++ (10 ∷ [])) w.0 r rest whole)

last_is : (front : List ℕ) → get_or (front ++ (10 ∷ [])) (length front) 0 ≡ 10
last_is [] = refl
last_is (f ∷ front) = last_is front

-- a text that is one line without a line feed does not end with one
not_whole : (x : List ℕ) → 0 < length x → ((k : ℕ) → k < length x → get_or x k 0 ≡ 10 → ⊥) → WholeLines x → ⊥
not_whole x some solid (inl e) = omega (arith, ap length e)
not_whole x some solid (inr w) =
    solid (length w.0) (omega (arith, ap length w.1, length-append w.0 (10 ∷ []))) (ap (λ l. get_or l (length w.0) 0) w.1 ∙ last_is w.0)

pub cut_join : (a b : List ℕ) (xs ys : List (List ℕ)) → WholeLines a → Cut a xs → Cut b ys → Cut (a ++ b) (xs ++ ys)
cut_join a b [] ys w e k = subst (λ (t : List ℕ). Cut (t ++ b) ys) (sym (nil_from_length a e)) k
cut_join a b (x ∷ xs) ys w (rest, l, c) k = by_cut l.cut (λ v. cut_join rest b xs ys v c k)
  where
    by_cut : (a ≡ x ++ (10 ∷ rest)) ⊎ ((a ≡ x) × (rest ≡ [])) → (WholeLines rest → Cut (rest ++ b) (xs ++ ys)) → Cut (a ++ b) (x ∷ (xs ++ ys))
    by_cut (inl e) go = (
      rest ++ b,
      record {
        solid = l.solid;
        cut = inl (ap (λ t. t ++ b) e ∙ append_assoc x (10 ∷ rest) b);
        some = omega (arith, l.some, length-append a b);
      },
      go (after_feed x rest (subst (λ (t : List ℕ). WholeLines t) e w)),
    )
    by_cut (inr e) go = absurd (not_whole x (omega (arith, l.some, ap length e.0)) l.solid (subst (λ (t : List ℕ). WholeLines t) e.0 w))

module _ {R L : Type 0} (rule : Ghosts R) (within : (r : R) (soil category p : ℕ) → Agrees rule.TOLERANCE (rule.fraction r soil category p) (rule.answer r soil category p)) where
  pub pieces_join : PiecesJoin {R = R} {L = L} (meaning rule)
  pieces_join s u t a b old mid new w p q = record {
    lines = p.lines ++ q.lines;
    cut = cut_join a b p.lines q.lines w p.cut q.cut;
    works = works_join rule within p.works q.works;
  }
