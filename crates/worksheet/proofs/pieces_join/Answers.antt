use Rattle.worksheet.proofs.Joined.{pieces_join}
use Rattle.worksheet.proofs.pieces_join.Goals as goal

pub returns : goal.returns
returns g c = pieces_join g.R.FrictionRule g.met.R.FrictionRule.within
