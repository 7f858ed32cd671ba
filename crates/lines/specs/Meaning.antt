-- A line has one meaning: it says one call, or it is misread for one reason, and never both.
use Rattle.std.specs.Prelude.{◌≡◌, ℕ, List}
use Rattle.terms.specs.declared.refusal.Refusal.{Refusal}
use Rattle.calls.specs.declared.Call.{Call}
use Rattle.lines.specs.Grammar.{Says, Misread}

pub record OneMeaning (line : List ℕ) : Type 0 where
  pub one_call : (c d : Call) → Says line c → Says line d → c ≡ d
  pub one_reason : (e f : Refusal) → Misread line e → Misread line f → e ≡ f
  pub not_both : (c : Call) (e : Refusal) → Says line c → Misread line e → ⊥
