use Rattle.std.proofs.Common.{◌<◌, length, arith, length-set}
use Rattle.lines.proofs.Onward.{onward}
use Rattle.lines.proofs.fields.fields.Goals as goal

pub loop-i-preserved : goal.loop-i-preserved
loop-i-preserved g c =
    let inside : c.loop-i.i < length c.loop-i.number-items = omega (arith, c.loop-i.invariant.long) in
    record { long = simp length-set c.loop-i.invariant.long; read = onward inside c.loop-i.invariant.read (rw c.in_ok-number.ensures.ok_part at c.field.ensures) }
