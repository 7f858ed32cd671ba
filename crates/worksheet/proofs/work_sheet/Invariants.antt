use Rattle.std.proofs.Common.{◌+◌, ◌*◌, ◌≤◌, length, vec_items, vec_len, vec_capacity}
use Rattle.lines.specs.Print.{longest_answer}
use Rattle.worksheet.proofs.Steps.{Sofar}
use Rattle.worksheet.proofs.work_sheet.Given as goal

-- the lines that came are worked, and what they took of the output's room is not more than they may
abbrev pub invariant-loop-line : goal.invariant-loop-line
invariant-loop-line g l = record {
  worked : Sofar g.R.FrictionRule g.met.R.FrictionRule.within l.initial.study l.study l.text l.line-iterator.0.now (vec_items l.initial.out) (vec_items l.out);
  wide : vec_capacity l.initial.out ≤ vec_capacity l.out;
  room : vec_len l.out + longest_answer * length l.line-iterator.0.now ≤ vec_len l.initial.out + longest_answer * length l.text;
}
