use Rattle.std.proofs.Common.{◌+◌, ◌*◌, ◌≤◌, get_or, ap, ◌∙◌, arith, rules, below_more}
use Rattle.lines.proofs.Digits.{more, less}
use Rattle.lines.proofs.fields.number.Goals as goal

pub loop-width-preserved : goal.loop-width-preserved
loop-width-preserved c =
    let old = c.loop-width.invariant in
    let i = c.loop-width.width in
    let s = c.args.text.now in
    let digit : (48 ≤ get_or s i 0) × (get_or s i 0 ≤ 57) = search rules in
    record {
      digits = below_more _ _ old.digits digit;
      few = omega arith;
      worth = ap (λ d. c.loop-width.number * 10 + d) c.from.ensures ∙ more s i c.loop-width.number c.loop-width-test.true digit.0 digit.1 old.worth;
      small = less i c.loop-width.number c.from.result (omega arith) old.small;
    }
