-- A story is a list of calls on one study; what it has to do with its answers, and with the site that it leaves.
use Rattle.std.specs.Prelude.{◌≡◌, ◌⊎◌, List, [], ◌∷◌, Some, Option}
use Rattle.terms.specs.declared.refusal.Refusal.{Refusal}
use Rattle.calls.specs.declared.Answer.{Answer}
use Rattle.calls.specs.declared.Answer.TheVariants.{Done, Refused, Judged}
use Rattle.study.specs.Sites.{Site, Plain, change_refusal, changed}
use Rattle.study.specs.Sites.Plain.{Lay, Amend, Lift, Drive, Judge}
use Rattle.study.specs.Rules.{Meaning, judge_refusal, judgement_on, resistance_on, WithinMargin}
use Rattle.story.specs.Allowed.{Allowed}

-- the first refusal of the table, if any, for a call on a site
abbrev pub refusal_of : Meaning → Site → Plain → Option Refusal
refusal_of m s (Lay l) = change_refusal s (Lay l)
refusal_of m s (Amend i p e) = change_refusal s (Amend i p e)
refusal_of m s Lift = change_refusal s Lift
refusal_of m s (Drive n) = change_refusal s (Drive n)
refusal_of m s (Judge q) = judge_refusal m.answer s q

-- the answer to a granted call
abbrev pub answer_of : Meaning → Site → Plain → Answer
answer_of m s (Lay l) = Done
answer_of m s (Amend i p e) = Done
answer_of m s Lift = Done
answer_of m s (Drive n) = Done
answer_of m s (Judge q) = Judged (judgement_on m.answer s q)

-- what the subject says of it: a judged resistance is within the margin of its exact fraction
abbrev pub Lawful : Meaning → Site → Plain → Type 0
Lawful m s (Lay l) = Unit {0}
Lawful m s (Amend i p e) = Unit {0}
Lawful m s Lift = Unit {0}
Lawful m s (Drive n) = Unit {0}
Lawful m s (Judge q) = WithinMargin m s (resistance_on m.answer s)

-- the site allows the call, the answer is the defined one, and the law holds of it
pub record Granted (m : Meaning) (s : Site) (c : Plain) (a : Answer) : Type 0 where
  pub allowed : Allowed m s c
  pub right : a ≡ answer_of m s c
  pub lawful : Lawful m s c

-- the site does not allow the call, and the answer is the first refusal of the table
pub record Denied (m : Meaning) (s : Site) (c : Plain) (a : Answer) : Type 0 where
  pub not_allowed : Allowed m s c → ⊥
  pub refusal : Refusal
  pub right : a ≡ Refused refusal
  pub first : refusal_of m s c ≡ Some refusal

-- an answer that is right for a call on a site
abbrev pub Fair : Meaning → Site → Plain → Answer → Type 0
Fair m s c a = Granted m s c a ⊎ Denied m s c a

-- one call: granted, and it leaves what it makes of the site; or denied, and it leaves the site
abbrev pub Step : Meaning → Site → Plain → Answer → Site → Type 0
Step m s c a t = (Granted m s c a × (t ≡ changed s c)) ⊎ (Denied m s c a × (t ≡ s))

-- a story told to a site: the calls, their answers, and the site that is left
pub data Told (m : Meaning) : Site → List Plain → List Answer → Site → Type 0 where
  over : {s : Site} → Told m s [] [] s
  granted : {s t : Site} {c : Plain} {a : Answer} {calls : List Plain} {answers : List Answer} → Granted m s c a → Told m (changed s c) calls answers t → Told m s (c ∷ calls) (a ∷ answers) t
  denied : {s t : Site} {c : Plain} {a : Answer} {calls : List Plain} {answers : List Answer} → Denied m s c a → Told m s calls answers t → Told m s (c ∷ calls) (a ∷ answers) t
