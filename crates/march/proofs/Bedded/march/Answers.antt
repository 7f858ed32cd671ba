use Rattle.std.proofs.Common.{arith}
use Rattle.transfer.specs.declared.Place.TheVariants as place
use Rattle.march.proofs.Cutting.{contact_at}
use Rattle.march.proofs.Going.{going_start, going_over_at}
use Rattle.march.proofs.Whole.{room_shown}
use Rattle.march.proofs.Bedded.march.Goals as goal

pub loop-part-init : goal.loop-part-init
loop-part-init g c =
    going_start _ (g.met.L.TransferLaw.keeps c.args.self.now.law.now place.Tip).capped c.args.side (room_shown c.args.self.now.shaft.now c.parts-part-items.ensures) (omega arith) c.tip-node.ensures

pub over-node-requires-clause-contact : goal.over-node-requires-clause-contact
over-node-requires-clause-contact g c =
    contact_at c.parts-part-items.result.now c.loop-part.part-index c.loop-part-test.true (room_shown c.args.self.now.shaft.now c.parts-part-items.ensures).shaft

pub loop-part-preserved : goal.loop-part-preserved
loop-part-preserved g c =
    going_over_at _ c.args.side (g.met.L.TransferLaw.keeps c.args.self.now.law.now place.Shaft).capped c.loop-part-test.true (omega (arith, c.args.self.now.shaft.now.stepped.0)) c.over-node.ensures c.loop-part.invariant
