-- What working a sheet promises: its lines, cut from the text; the calls that they say and their answers, in the law of every story; and the output, line by line.
use Rattle.std.specs.Prelude.{◌≡◌, ℕ, ◌<◌, ◌⊎◌, List, ◌++◌, length}
use Rattle.terms.specs.declared.refusal.Refusal.{Refusal}
use Rattle.calls.specs.declared.Call.{Call}
use Rattle.calls.specs.declared.Answer.{Answer}
use Rattle.calls.specs.declared.Answer.TheVariants.{Refused}
use Rattle.lines.specs.Grammar.{Says, Misread}
use Rattle.study.specs.declared.holder.Study.{Study}
use Rattle.study.specs.Sites.{Plain, plain}
use Rattle.study.specs.Rules.{Meaning}
use Rattle.story.specs.Tales.{Performs, Tale}
use Rattle.worksheet.specs.Cutting.{Cut}
use Rattle.worksheet.specs.Replies.{Replies}

module _ {R L : Type 0} (meaning : Study R L → Meaning) where
  -- one line: it says a call, which is performed; or it is misread, and the study stays
  abbrev pub AnswersLine : Study R L → List ℕ → Answer → Study R L → Type 0
  AnswersLine s line a t =
      ((call : Call) × Says line call × Performs meaning s (plain call) a t)
      ⊎ ((refusal : Refusal) × Misread line refusal × (a ≡ Refused refusal) × (t ≡ s))

  -- these lines are told to the study s, which is then t, and what is written goes to the end of the output
  pub record Works (s t : Study R L) (lines : List (List ℕ)) (old new : List ℕ) : Type 0 where
    pub calls : List Plain
    pub answers : List Answer
    pub written : List ℕ
    pub replies : Replies lines calls answers written
    pub tale : Tale meaning s calls answers t
    pub output : new ≡ old ++ written

  -- a whole text
  pub record Sheet (s t : Study R L) (text old new : List ℕ) : Type 0 where
    pub lines : List (List ℕ)
    pub cut : Cut text lines
    pub works : Works s t lines old new

  -- want of memory: the lines before some rest of the text are worked, and none of the rest
  pub record Halted (s t : Study R L) (text old new : List ℕ) : Type 0 where
    pub lines : List (List ℕ)
    pub rest : List ℕ
    pub some : 0 < length rest
    pub cut : (later : List (List ℕ)) → Cut rest later → Cut text (lines ++ later)
    pub works : Works s t lines old new
