use Rattle.std.proofs.Common.{◌≡◌, length}
use Rattle.lines.proofs.Onward.{Onward}
use Rattle.lines.proofs.fields.fields.Given as goal

abbrev pub invariant-loop-i : goal.invariant-loop-i
invariant-loop-i g l = record { long : length l.number-items ≡ g.row.N; read : Onward l.text l.number-items l.rest l.i }
