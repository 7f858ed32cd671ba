use Rattle.std.proofs.Common.{min, ap, ◌∙◌, arith}
use Rattle.transfer.specs.declared.Place.TheVariants as place
use Rattle.march.proofs.Going.{along_over, ahead_first, along_end}
use Rattle.march.proofs.climb.Climb.over.Goals as goal

pub invariant_of-slice-clause-ahead : goal.invariant_of-slice-clause-ahead
invariant_of-slice-clause-ahead g c = rw c.body.ensures.value (ahead_first c.args.part.now c.min-height.result (omega arith) c.loop-left.invariant.ahead)

pub loop-left-preserved : goal.loop-left-preserved
loop-left-preserved g c =
    let law = c.args.self.now.bedded.now.law.now in
    along_over (g.met.L.TransferLaw.keeps law place.Shaft).capped c.args.self.now.side c.args.part.now c.min-height.result (omega arith) c.loop-left-test.true (c.min-height.ensures ∙ ap (λ x. min x c.loop-left.left) c.step.ensures) (rw c.body.ensures.value at c.over-node.ensures) c.loop-left.invariant

pub returns : goal.returns
returns g c = along_end (omega arith) c.loop-left-test.false c.loop-left.invariant
