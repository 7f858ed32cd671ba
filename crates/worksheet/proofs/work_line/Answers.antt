use Rattle.std.proofs.Common.{◌≡◌, true, ◌++◌, is_ok, vec_items}
use Rattle.lines.specs.Print.{answer_text}
use Rattle.worksheet.proofs.Outcomes.{ok_cases}
use Rattle.worksheet.proofs.Steps.{line_worked}
use Rattle.worksheet.proofs.work_line.Goals as goal

pub returns-clause-cases : goal.returns-clause-cases
returns-clause-cases g c =
    let ok : is_ok c.write_answer.result ≡ true = c.write_answer.ensures.succeeds c.in_ok-reserve.ensures.ok in
    let added = rw ok at c.write_answer.ensures.items in
    let items : vec_items c.write_answer.new.out ≡ vec_items c.args.out.now ++ answer_text c.letter_of.result c.reply-answer.result = cc c.in_ok-reserve.ensures.items in
    ok_cases c.write_answer.result _ _ ok (line_worked g.R.FrictionRule g.met.R.FrictionRule.within c.letter_of.result _ _ c.letter_of.ensures c.reply-answer.ensures items)
