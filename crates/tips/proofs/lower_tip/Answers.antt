use Rattle.std.proofs.Common.{of_calls, arith}
use Rattle.tips.proofs.Searching.{sound, as_lower}
use Rattle.tips.proofs.lower_tip.Goals as goal

pub returns : goal.returns
returns g c =
    as_lower (sound c.args.bedded.now g.met.L.TransferLaw.keeps) c.first_above.result (omega arith) c.tip_range.ensures c.first_above.ensures c.map_or.ensures (λ first e. search of_calls)
