-- The lines of a sheet, the calls that they say, the answers to these, and the text that is written.
use Rattle.std.specs.Prelude.{ℕ, List, [], ◌∷◌, ◌++◌, Option, MatchOption}
use Rattle.terms.specs.declared.refusal.Refusal.{Refusal}
use Rattle.calls.specs.declared.Call.{Call}
use Rattle.calls.specs.declared.Answer.{Answer}
use Rattle.calls.specs.declared.Answer.TheVariants.{Refused}
use Rattle.lines.specs.declared.letter.Letter.{Letter}
use Rattle.lines.specs.Letters.{Begins}
use Rattle.lines.specs.Grammar.{Says, Misread}
use Rattle.lines.specs.Print.{answer_text}
use Rattle.study.specs.Sites.{Plain, plain}

-- the letter that the line begins with, if it begins with one
abbrev pub Heads : List ℕ → Option Letter → Type 0
Heads line o = MatchOption o ((letter : Letter) → Begins line letter → ⊥) (λ letter. Begins line letter)

-- a line that says a call is answered by the call's answer; one that is misread by its refusal, and it says no call
pub data Replies : List (List ℕ) → List Plain → List Answer → List ℕ → Type 0 where
  none : Replies [] [] [] []
  said : {line : List ℕ} {lines : List (List ℕ)} {calls : List Plain} {answers : List Answer} {out : List ℕ} (letter : Option Letter) (call : Call) (answer : Answer)
      → Heads line letter → Says line call → Replies lines calls answers out
      → Replies (line ∷ lines) (plain call ∷ calls) (answer ∷ answers) (answer_text letter answer ++ out)
  misread : {line : List ℕ} {lines : List (List ℕ)} {calls : List Plain} {answers : List Answer} {out : List ℕ} (letter : Option Letter) (refusal : Refusal)
      → Heads line letter → Misread line refusal → Replies lines calls answers out
      → Replies (line ∷ lines) calls answers (answer_text letter (Refused refusal) ++ out)
