use Rattle.std.proofs.Common.{◌≡◌, ap, ◌∙◌, arith}
use Rattle.column.specs.Tips.{tip_range}
use Rattle.shaft.specs.Views.{body_of}
use Rattle.march.specs.Curves.{case_of_bedded}
use Rattle.tips.specs.FirstAbove.{end_by}
use Rattle.tips.proofs.Searching.{sound, ended, none, found}
use Rattle.tips.proofs.first_above.Goals as goal

pub returns-then-above-floor : goal.returns-then-above-floor
returns-then-above-floor g c =
    let x = c.args.bedded.now in
    let col = case_of_bedded g.L.TransferLaw.curve x in
    let T = tip_range (body_of x.shaft.now) in
    let range = c.tip_range-range.result in
    let same : range ≡ T = c.tip_range-range.ensures in
    none c.args.side (sound x g.met.L.TransferLaw.keeps)
    (ended c.args.side col T range c.march-above.result c.march-above.ensures (omega arith) ∙ ap (end_by c.args.side col) same) c.if-above-floor.true

pub returns : goal.returns
returns g c = found c.args.side (sound c.args.bedded.now g.met.L.TransferLaw.keeps) c.loop-to-test.false c.loop-to.invariant
