-- The same law place by place: every answer is right on the site that the granted ones of the earlier calls leave.
use Rattle.std.specs.Prelude.{◌≡◌, ◌-◌, ◌≤◌, List, [], ◌∷◌, ◌++◌, length, Some, None, Option, slice_index_or}
use Rattle.terms.specs.declared.refusal.Refusal.{Refusal}
use Rattle.calls.specs.declared.Answer.{Answer}
use Rattle.study.specs.Sites.{Site, Plain, bare, change_refusal, changed}
use Rattle.study.specs.Rules.{Meaning}
use Rattle.story.specs.Story.{Fair}

abbrev pub unless : {X : Type 0} → Option Refusal → X → X → X
unless None new old = new
unless (Some r) new old = old

-- the site that a call leaves, reckoned from its arguments alone
abbrev pub after : Site → Plain → Site
after s c = unless (change_refusal s c) (changed s c) s

-- the site that a list of calls leaves
abbrev pub left_by : Site → List Plain → Site
left_by s [] = s
left_by s (c ∷ calls) = left_by (after s c) calls

-- wherever the calls are cut into earlier ones, a call and later ones, its answer is right on the site that the earlier ones leave
abbrev pub Answered : Meaning → Site → List Plain → List Answer → Type 0
Answered m first calls answers =
    (earlier : List Plain) (c : Plain) (later : List Plain) (d : Answer) → calls ≡ earlier ++ c ∷ later
    → Fair m (left_by first earlier) c (slice_index_or answers (length earlier) d)

-- the same with the earlier life of the study: calls from its making on that leave it as it is found
abbrev pub Lived : Meaning → Site → List Plain → List Answer → Type 0
Lived m first calls answers =
    (before earlier : List Plain) (c : Plain) (later : List Plain) (d : Answer) → left_by bare before ≡ first → before ++ calls ≡ earlier ++ c ∷ later → length before ≤ length earlier
    → Fair m (left_by bare earlier) c (slice_index_or answers (length earlier - length before) d)
