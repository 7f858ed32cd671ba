-- Lines worked one after the other: one more, and all.
use Rattle.std.proofs.Common.{◌≡◌, ℕ, List, [], ◌∷◌, ◌++◌, length, Option, sym, refl, ap, ◌∙◌, subst, inl, inr, append_assoc, append-nil}
use Rattle.friction.specs.Rule.{Agrees}
use Rattle.friction.specs.declared.rule.FrictionRule.{Ghosts}
use Rattle.calls.specs.declared.Answer.{Answer}
use Rattle.calls.specs.declared.Answer.TheVariants.{Refused}
use Rattle.lines.specs.declared.letter.Letter.{Letter}
use Rattle.lines.specs.Print.{answer_text}
use Rattle.study.specs.declared.holder.Study.{Study}
use Rattle.study.specs.Sites.{Plain, plain}
use Rattle.study.specs.Views.{site_of, rule_of, meaning}
use Rattle.story.specs.Story.Told.{over}
use Rattle.story.specs.Tales.{Tale}
use Rattle.story.proofs.Splits.{told_one}
use Rattle.story.proofs.Telling.{same_meaning, tale, tale_join}
use Rattle.worksheet.specs.Cutting.{Line, Cut}
use Rattle.worksheet.specs.Replies.{Heads, Replies}
use Rattle.worksheet.specs.Replies.Replies.{none, said, misread}
use Rattle.worksheet.specs.Sheets.{AnswersLine, Works, Sheet}

-- two runs of lines are one
replies_join : {xs ys : List (List ℕ)} {cs ds : List Plain} {as₁ as₂ : List Answer} {out more : List ℕ} → Replies xs cs as₁ out → Replies ys ds as₂ more → Replies (xs ++ ys) (cs ++ ds) (as₁ ++ as₂) (out ++ more)
replies_join none q = q
replies_join {ys = ys} {ds = ds} {as₂ = as₂} {more = more} (said {line = line} {lines = lines} {calls = calls} {answers = answers} {out = out} letter call answer h s p) q =
    subst (λ (o : List ℕ). Replies (line ∷ (lines ++ ys)) (plain call ∷ (calls ++ ds)) (answer ∷ (answers ++ as₂)) o) (sym (append_assoc (answer_text letter answer) out more)) (said letter call answer h s (replies_join p q))
replies_join {ys = ys} {ds = ds} {as₂ = as₂} {more = more} (misread {line = line} {lines = lines} {calls = calls} {answers = answers} {out = out} letter refusal h s p) q =
    subst (λ (o : List ℕ). Replies (line ∷ (lines ++ ys)) (calls ++ ds) (answers ++ as₂) o) (sym (append_assoc (answer_text letter (Refused refusal)) out more)) (misread letter refusal h s (replies_join p q))

module _ {R L : Type 0} (rule : Ghosts R) (within : (r : R) (soil category p : ℕ) → Agrees rule.TOLERANCE (rule.fraction r soil category p) (rule.answer r soil category p)) where
  agrees : (s : Study R L) (soil category p : ℕ) → Agrees rule.TOLERANCE (rule.fraction (rule_of s) soil category p) (rule.answer (rule_of s) soil category p)
  agrees s = within (rule_of s)

  nothing_worked : (s : Study R L) (old : List ℕ) → Works (meaning rule) s s [] old old
  nothing_worked s old = record {
    calls = [];
    answers = [];
    written = [];
    replies = none;
    tale = tale (meaning rule) agrees s s [] [] over (refl, refl);
    output = sym (append-nil old);
  }

  -- one line, by its answer
  pub line_worked : {s t : Study R L} {line : List ℕ} {a : Answer} (letter : Option Letter) (old new : List ℕ) → Heads line letter → AnswersLine (meaning rule) s line a t → new ≡ old ++ answer_text letter a
      → Works (meaning rule) s t (line ∷ []) old new
  line_worked {s} {t} {line} {a} letter old new h (inl w) e =
      record {
        calls = plain w.0 ∷ [];
        answers = a ∷ [];
        written = answer_text letter a ++ [];
        replies = said letter w.0 a h w.1 none;
        tale = tale (meaning rule) agrees s t (plain w.0 ∷ []) (a ∷ []) (told_one (meaning rule s) (site_of s) (plain w.0) a (site_of t) w.2.step) w.2.kept;
        output = e ∙ sym (ap (λ o. old ++ o) (append-nil (answer_text letter a)));
      }
  line_worked {s} {t} {line} {a} letter old new h (inr w) e =
      let same : t ≡ s = w.3 in
      record {
        calls = [];
        answers = [];
        written = answer_text letter (Refused w.0) ++ [];
        replies = misread letter w.0 h w.1 none;
        tale = subst (λ (x : Study R L). Tale (meaning rule) s [] [] x) (sym same) (tale (meaning rule) agrees s s [] [] over (refl, refl));
        output = e ∙ ap (λ b. old ++ answer_text letter b) w.2 ∙ sym (ap (λ o. old ++ o) (append-nil (answer_text letter (Refused w.0))));
      }

  pub works_join : {s u t : Study R L} {xs ys : List (List ℕ)} {old mid new : List ℕ} → Works (meaning rule) s u xs old mid → Works (meaning rule) u t ys mid new → Works (meaning rule) s t (xs ++ ys) old new
  works_join {s} {u} {t} {xs} {ys} {old} {mid} {new} p q = record {
    calls = p.calls ++ q.calls;
    answers = p.answers ++ q.answers;
    written = p.written ++ q.written;
    replies = replies_join p.replies q.replies;
    tale = tale_join (meaning rule) agrees s u t p.calls q.calls p.answers q.answers (same_meaning rule s u p.tale.kept.0) p.tale q.tale;
    output = q.output ∙ ap (λ o. o ++ q.written) p.output ∙ append_assoc old p.written q.written;
  }

  -- the lines of text before rest are worked
  pub record Sofar (s t : Study R L) (text rest old new : List ℕ) : Type 0 where
    pub lines : List (List ℕ)
    pub cut : (later : List (List ℕ)) → Cut rest later → Cut text (lines ++ later)
    pub works : Works (meaning rule) s t lines old new

  pub none_yet : (s : Study R L) (text old : List ℕ) → Sofar s s text text old old
  none_yet s text old = record { lines = []; cut = λ later h. h; works = nothing_worked s old }

  pub one_more : {s u t : Study R L} {text rest after line old mid new : List ℕ} → Sofar s u text rest old mid → Line rest line after → Works (meaning rule) u t (line ∷ []) mid new
      → Sofar s t text after old new
  one_more {s} {u} {t} {text} {rest} {after} {line} p l w = record {
    lines = p.lines ++ line ∷ [];
    cut = λ later h. subst (λ (ls : List (List ℕ)). Cut text ls) (sym (append_assoc p.lines (line ∷ []) later)) (p.cut (line ∷ later) (after, l, h));
    works = works_join p.works w;
  }

  pub all_done : {s t : Study R L} {text rest old new : List ℕ} → length rest ≡ 0 → Sofar s t text rest old new → Sheet (meaning rule) s t text old new
  all_done {text = text} e p = record {
    lines = p.lines;
    cut = subst (λ (ls : List (List ℕ)). Cut text ls) (append-nil p.lines) (p.cut [] e);
    works = p.works;
  }
