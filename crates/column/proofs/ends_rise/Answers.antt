use Rattle.column.proofs.Rising.{ends_rise}
use Rattle.column.proofs.ends_rise.Goals as goal

pub returns : goal.returns
returns c = ends_rise
