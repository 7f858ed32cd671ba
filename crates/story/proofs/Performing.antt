-- What each call's contract says, as one step of a story.
use Rattle.std.proofs.Common.{◌≡◌, ℕ, Ok, Err, Result, MatchResult, sym, refl, ap, ◌∙◌, subst, inl, inr}
use Rattle.terms.specs.declared.refusal.Refusal.{Refusal}
use Rattle.terms.specs.Chains.{Answers}
use Rattle.friction.specs.Rule.{Agrees}
use Rattle.calls.specs.declared.Answer.{Answer}
use Rattle.calls.specs.declared.Answer.TheVariants.{Done, Refused, Judged}
use Rattle.calls.specs.declared.Judgement.{Judgement}
use Rattle.calls.specs.declared.Question.{Question}
use Rattle.study.specs.declared.holder.Study.{Study}
use Rattle.study.specs.Sites.{Plain, change_refusal}
use Rattle.study.specs.Sites.Plain.{Judge}
use Rattle.study.specs.Rules.{Meaning, judge_refusal, JudgedOn}
use Rattle.study.specs.Views.{site_of, Obeys}
use Rattle.story.specs.Story.{refusal_of, answer_of}
use Rattle.story.specs.Tales.{Performs}
use Rattle.story.proofs.Grants.{grant, deny}

module _ {R L : Type 0} (meaning : Study R L → Meaning) where
  pub performs_as : (s t : Study R L) (k c : Plain) (a b : Answer) → k ≡ c → a ≡ b → Performs meaning s c b t → Performs meaning s k a t
  performs_as s t k c a b e f p =
      subst (λ (x : Plain). Performs meaning s x a t) (sym e) (subst (λ (x : Answer). Performs meaning s c x t) (sym f) p)

  module _ (agrees : (s : Study R L) (soil category p : ℕ) → Agrees (meaning s).tolerance ((meaning s).fraction soil category p) ((meaning s).answer soil category p)) where
    -- a change, and what its result is told as
    pub performs_change : (s t : Study R L) (k c : Plain) (r : Result (Unit {0}) Refusal) (a : Answer) → k ≡ c → MatchResult r (λ _. a ≡ Done) (λ e. a ≡ Refused e)
        → refusal_of (meaning s) (site_of s) c ≡ change_refusal (site_of s) c → answer_of (meaning s) (site_of s) c ≡ Done → Obeys s c r t → Performs meaning s k a t
    performs_change s t k c (Ok _) a e f q d o =
        performs_as s t k c a Done e f
        (record {
          step = inl (grant (meaning s) (agrees s) (site_of s) c Done (q ∙ o.changes.0) (sym d), o.changes.1);
          kept = o.kept;
          unchanged = λ r e. cc;
        })
    performs_change s t k c (Err r) a e f q d o =
        performs_as s t k c a (Refused r) e f
        (record {
          step = inr (deny (meaning s) (agrees s) (site_of s) c r (q ∙ o.changes.0), ap site_of o.changes.1);
          kept = o.kept;
          unchanged = λ r z. o.changes.1;
        })

    -- a question, and what its result is told as
    pub performs_judge : (s : Study R L) (k : Plain) (q : Question) (r : Result Judgement Refusal) (a : Answer) → k ≡ Judge q → MatchResult r (λ j. a ≡ Judged j) (λ e. a ≡ Refused e)
        → Answers (judge_refusal (meaning s).answer (site_of s) q) (JudgedOn (meaning s) (site_of s) q) r → Performs meaning s k a s
    performs_judge s k q (Ok j) a e f h =
        performs_as s s k (Judge q) a (Judged j) e f
        (record {
          step = inl (grant (meaning s) (agrees s) (site_of s) (Judge q) (Judged j) h.0 (ap Judged h.1.same), refl);
          kept = (refl, refl);
          unchanged = λ r z. refl;
        })
    performs_judge s k q (Err r) a e f h =
        performs_as s s k (Judge q) a (Refused r) e f
        (record { step = inr (deny (meaning s) (agrees s) (site_of s) (Judge q) r h, refl); kept = (refl, refl); unchanged = λ x z. refl })
