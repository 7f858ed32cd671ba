-- One call on in a story; a story as a tale; two tales as one.
use Rattle.std.proofs.Common.{◌≡◌, ℕ, ◌+◌, ◌<◌, List, [], ◌∷◌, ◌++◌, map, length, get_or, take, set, sym, ap, ◌∙◌, subst}
use Rattle.std.proofs.lemmas.List.{map_more, take_more_set}
use Rattle.friction.specs.declared.rule.FrictionRule.{Ghosts}
use Rattle.friction.specs.Rule.{Agrees}
use Rattle.calls.specs.declared.Call.{Call}
use Rattle.calls.specs.declared.Answer.{Answer}
use Rattle.study.specs.declared.holder.Study.{Study}
use Rattle.study.specs.Sites.{Site, Plain, plain}
use Rattle.study.specs.Rules.{Meaning}
use Rattle.study.specs.Views.{site_of, rule_of, Kept, meaning}
use Rattle.story.specs.Story.{Step, Told}
use Rattle.story.specs.Places.{Answered}
use Rattle.story.specs.Tales.{Tale}
use Rattle.story.proofs.Births.{born}
use Rattle.story.proofs.Splits.{join, told_one, leaves, placed, lived}

-- a study with the same rule means the same
pub same_meaning : {R L : Type 0} (rule : Ghosts R) (s t : Study R L) → rule_of t ≡ rule_of s → meaning rule t ≡ meaning rule s
same_meaning rule s t e = ap (λ r. record { tolerance = rule.TOLERANCE; fraction = rule.fraction r; answer = rule.answer r }) e

pub told_more : (m k : Meaning) → k ≡ m → (first s t : Site) (calls : List Call) (answers : List Answer) (i : ℕ) (d call : Call) (a : Answer) → call ≡ get_or calls i d → i < length calls → i < length answers
    → Told m first (map plain (take i calls)) (take i answers) s → Step k s (plain call) a t
    → Told m first (map plain (take (i + 1) calls)) (take (i + 1) (set answers i a)) t
told_more m k same first s t calls answers i d call a here h j told step =
    let step₁ = subst (λ (x : Call). Step k s (plain x) a t) here step in
    subst (λ cs. Told m first cs (take (i + 1) (set answers i a)) t) (sym (map_more plain calls i d h))
    (subst (λ as₁. Told m first (map plain (take i calls) ++ plain (get_or calls i d) ∷ []) as₁ t) (sym (take_more_set answers i a j)) (join m told (told_one m s (plain (get_or calls i d)) a t (subst (λ (x : Meaning). Step x s (plain (get_or calls i d)) a t) same step₁))))

module _ {R L : Type 0} (meaning : Study R L → Meaning) (agrees : (s : Study R L) (soil category p : ℕ) → Agrees (meaning s).tolerance ((meaning s).fraction soil category p) ((meaning s).answer soil category p)) where
  pub tale : (s t : Study R L) (calls : List Plain) (answers : List Answer) → Told (meaning s) (site_of s) calls answers (site_of t) → Kept s t → Tale meaning s calls answers t
  tale s t calls answers told kept =
      record {
        told = told;
        lived = lived (meaning s) (site_of s) calls answers (placed (meaning s) (agrees s) told);
        born = born s;
        as_made = λ e. subst (λ (x : Site). Answered (meaning s) x calls answers) e (placed (meaning s) (agrees s) told);
        leaves = leaves (meaning s) (agrees s) told;
        kept = kept;
      }

  -- two consecutive tales are one, since the rule is kept
  pub tale_join : (s u t : Study R L) (xs ys : List Plain) (as₁ as₂ : List Answer) → meaning u ≡ meaning s
      → Tale meaning s xs as₁ u → Tale meaning u ys as₂ t → Tale meaning s (xs ++ ys) (as₁ ++ as₂) t
  tale_join s u t xs ys as₁ as₂ e p q =
      let second = subst (λ (m : Meaning). Told m (site_of u) ys as₂ (site_of t)) e q.told in
      tale s t (xs ++ ys) (as₁ ++ as₂) (join (meaning s) p.told second) (q.kept.0 ∙ p.kept.0, q.kept.1 ∙ p.kept.1)
