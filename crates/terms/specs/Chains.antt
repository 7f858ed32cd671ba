-- The first refusal of several conditions, and what a call that changes something leaves.
use Rattle.std.specs.Prelude.{◌≡◌, Bool, cond, Some, None, Ok, Err, Option, Result}
use Rattle.terms.specs.declared.refusal.Refusal.{Refusal}

-- the refusal r, if the condition holds
abbrev pub when : Bool → Refusal → Option Refusal
when b r = cond b (Some r) None

-- the first, or else the second
abbrev pub or_else : {X : Type 0} → Option X → Option X → Option X
or_else (Some x) o = Some x
or_else None o = o

-- granted, unless there is a refusal
abbrev pub unless : Option Refusal → Result (Unit {0}) Refusal
unless (Some e) = Err e
unless None = Ok tt

-- a refusal leaves the whole of the old as it was; where there is none, what is left shows the new
abbrev pub Changes : {G X : Type 0} → (G → X) → Option Refusal → G → X → Result (Unit {0}) Refusal → G → Type 0
Changes view refusal old new (Ok _) left = (refusal ≡ None) × (view left ≡ new)
Changes view refusal old new (Err e) left = (refusal ≡ Some e) × (left ≡ old)

-- a question: the refusal, or where there is none an answer that is right
abbrev pub Answers : {A : Type 0} → Option Refusal → (A → Type 0) → Result A Refusal → Type 0
Answers refusal Right (Ok a) = (refusal ≡ None) × Right a
Answers refusal Right (Err e) = refusal ≡ Some e
