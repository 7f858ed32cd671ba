use Rattle.std.proofs.Common.{◌-◌}
use Rattle.column.specs.Tips.{tip_range}
use Rattle.shaft.specs.Views.{body_of}
use Rattle.march.specs.Curves.{case_of_bedded}
use Rattle.tips.proofs.Searching.{Apart}
use Rattle.tips.proofs.first_above.Given as goal

-- the tip displacement that is looked for lies between the two ends
abbrev pub invariant-loop-to : goal.invariant-loop-to
invariant-loop-to g l = Apart l.side (case_of_bedded g.L.TransferLaw.curve l.bedded) (tip_range (body_of l.bedded.shaft.now)) l.floor l.from l.to

abbrev pub decreases-loop-to : goal.decreases-loop-to
decreases-loop-to g l = l.to - l.from
