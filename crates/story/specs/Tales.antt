-- What performing one call promises, and telling a list of them.
use Rattle.std.specs.Prelude.{◌≡◌, ℕ, min, List, map, length, take, drop}
use Rattle.terms.specs.declared.refusal.Refusal.{Refusal}
use Rattle.calls.specs.declared.Call.{Call}
use Rattle.calls.specs.declared.Answer.{Answer}
use Rattle.calls.specs.declared.Answer.TheVariants.{Refused}
use Rattle.study.specs.declared.holder.Study.{Study}
use Rattle.study.specs.Sites.{Plain, plain, bare}
use Rattle.study.specs.Rules.{Meaning}
use Rattle.study.specs.Views.{site_of, Kept}
use Rattle.story.specs.Story.{Step, Told}
use Rattle.story.specs.Places.{Answered, Lived, left_by}

module _ {R L : Type 0} (meaning : Study R L → Meaning) where
  -- one call; a refusal leaves the whole study as it was
  pub record Performs (s : Study R L) (c : Plain) (a : Answer) (t : Study R L) : Type 0 where
    pub step : Step (meaning s) (site_of s) c a (site_of t)
    pub kept : Kept s t
    pub unchanged : (r : Refusal) → a ≡ Refused r → t ≡ s

  -- a list of calls told to a study, with its answers
  pub record Tale (s : Study R L) (calls : List Plain) (answers : List Answer) (t : Study R L) : Type 0 where
    -- call by call
    pub told : Told (meaning s) (site_of s) calls answers (site_of t)
    -- place by place, from the making of the study on
    pub lived : Lived (meaning s) (site_of s) calls answers
    -- there is such an earlier life
    pub born : (before : List Plain) × (left_by bare before ≡ site_of s)
    -- place by place, for a study as made
    pub as_made : site_of s ≡ bare → Answered (meaning s) bare calls answers
    -- what is left is reckoned from the calls' arguments
    pub leaves : site_of t ≡ left_by (site_of s) calls
    pub kept : Kept s t

  -- the first n calls are told and the first n answers written, where n is the lesser of the two lengths; the later answers stay
  pub record Tells (s : Study R L) (calls : List Call) (old : List Answer) (n : ℕ) (t : Study R L) (new : List Answer) : Type 0 where
    pub many : n ≡ min (length calls) (length old)
    pub tale : Tale s (map plain (take n calls)) (take n new) t
    pub rest : drop n new ≡ drop n old
