use Rattle.column.proofs.Bracketed.{bracketed}
use Rattle.column.proofs.bracket_stands.Goals as goal

pub returns : goal.returns
returns c = bracketed
