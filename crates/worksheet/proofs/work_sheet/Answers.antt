use Rattle.std.proofs.Common.{arith}
use Rattle.worksheet.proofs.Cuts.{less}
use Rattle.worksheet.proofs.Steps.{none_yet, one_more, all_done}
use Rattle.worksheet.proofs.work_sheet.Goals as goal

pub loop-line-init : goal.loop-line-init
loop-line-init g c =
    rw c.into_iter-line-iterator.ensures.into_iter_gives (record {
      worked = none_yet g.R.FrictionRule g.met.R.FrictionRule.within _ _ _;
      wide = omega arith;
      room = omega arith;
    })

pub loop-line-preserved : goal.loop-line-preserved
loop-line-preserved g c =
    let step = c.in-Some.ensures.steps in
    let told = c.in_ok-work_line.ensures in
    record {
      worked = one_more g.R.FrictionRule g.met.R.FrictionRule.within c.loop-line.invariant.worked step told.cases;
      wide = omega (arith, told.capacity);
      room = omega (arith, told.len, less step);
    }

pub returns-clause-cases : goal.returns-clause-cases
returns-clause-cases g c = all_done g.R.FrictionRule g.met.R.FrictionRule.within c.in-None.ensures.steps.0 c.loop-line.invariant.worked
