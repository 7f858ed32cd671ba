use Rattle.std.proofs.Common.{length, arith}
use Rattle.std.proofs.lemmas.Slice.{between_to_end}
use Rattle.lines.proofs.Shapes.{read, unread}
use Rattle.lines.proofs.fields.field.Goals as goal

pub returns-in_err-number : goal.returns-in_err-number
returns-in_err-number c = rw c.from_residual-in_err-number.ensures (unread c.in_ok-rest.ensures.cases c.in_err-number.ensures)

pub returns : goal.returns
returns c =
    let rest = c.in_ok-rest.rest.now in
    let told = c.in_ok-number.ensures in
    rw (between_to_end rest c.in_ok-number.width (length rest) (omega (arith, told.0.inside))) (read c.in_ok-rest.ensures.cases told.0 told.1 told.2)
