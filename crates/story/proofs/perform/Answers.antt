-- Each arm of the match, as one step of a story.
use Rattle.std.proofs.Common.{◌≡◌, refl, ap, rules, MatchResult}
use Rattle.calls.specs.declared.Answer.TheVariants.{Refused, Judged}
use Rattle.study.specs.Sites.{plain}
use Rattle.study.specs.Views.{rule_of, meaning}
use Rattle.story.proofs.Performing.{performs_change, performs_judge}
use Rattle.story.proofs.perform.Goals as goal

pub returns-in-Lay : goal.returns-in-Lay
returns-in-Lay g c =
    performs_change (meaning g.R.FrictionRule) (λ s. g.met.R.FrictionRule.within (rule_of s)) c.args.study.now c.lay.new.self
    _ _ c.lay.result _ (ap plain c.in-Lay.is) c.into.ensures refl refl c.lay.ensures

pub returns-in-Amend : goal.returns-in-Amend
returns-in-Amend g c =
    performs_change (meaning g.R.FrictionRule) (λ s. g.met.R.FrictionRule.within (rule_of s)) c.args.study.now c.amend.new.self
    _ _ c.amend.result _ (ap plain c.in-Amend.is) c.into-in-Amend.ensures refl refl c.amend.ensures

pub returns-in-Lift : goal.returns-in-Lift
returns-in-Lift g c =
    performs_change (meaning g.R.FrictionRule) (λ s. g.met.R.FrictionRule.within (rule_of s)) c.args.study.now c.lift.new.self
    _ _ c.lift.result _ (ap plain c.in-Lift.is) c.into-in-Lift.ensures refl refl c.lift.ensures

pub returns-in-Drive : goal.returns-in-Drive
returns-in-Drive g c =
    performs_change (meaning g.R.FrictionRule) (λ s. g.met.R.FrictionRule.within (rule_of s)) c.args.study.now c.drive.new.self
    _ _ c.drive.result _ (ap plain c.in-Drive.is) c.into-in-Drive.ensures refl refl c.drive.ensures

pub returns-in-Judge : goal.returns-in-Judge
returns-in-Judge g c =
    let told : MatchResult c.judge.result (λ j. c.into-in-Judge.result ≡ Judged j) (λ e. c.into-in-Judge.result ≡ Refused e) = search rules in
    performs_judge (meaning g.R.FrictionRule) (λ s. g.met.R.FrictionRule.within (rule_of s)) c.args.study.now
    _ c.in-Judge.question c.judge.result _ (ap plain c.in-Judge.is) told c.judge.ensures
