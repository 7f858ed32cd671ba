use Rattle.std.proofs.Common.{◌≡◌, ℕ, ◌≤◌, List, None, sym, ap, ◌∙◌, subst, arith}
use Rattle.terms.specs.Fractions.{Near}
use Rattle.terms.proofs.Chained.{or_free}
use Rattle.terms.proofs.Chained.{granted}
use Rattle.ground.specs.declared.layer.Layer.{Layer}
use Rattle.ground.specs.Layers.{depth}
use Rattle.ground.specs.Table.{strata}
use Rattle.pile.specs.declared.numbers.PileNumbers.{PileNumbers}
use Rattle.pile.specs.Driven.{numbers_of}
use Rattle.pile.specs.Footing.{numbers_on}
use Rattle.pile.specs.FrictionList.{friction_list}
use Rattle.pile.specs.Shaft.{resistance_over}
use Rattle.pile.specs.Tip.{needed_depth}
use Rattle.calls.specs.declared.Judgement.{Judgement}
use Rattle.resistance.specs.Resistance.{resistance_by, exact_resistance, margin_of}
use Rattle.resistance.specs.Judging.{question_flaw, judgement_of}
use Rattle.resistance.proofs.Margins.{resistance_near}
use Rattle.resistance.proofs.judging.judge.Goals as goal

pub returns : goal.returns
returns g c =
    let rule = c.args.rule.now in
    let q = c.args.question.now in
    let ls = strata c.args.ground.now in
    let n = numbers_of c.args.pile.now in
    let answer = g.R.FrictionRule.answer rule in
    let fraction = g.R.FrictionRule.fraction rule in
    let tolerance = g.R.FrictionRule.TOLERANCE in
    let f = c.in_ok-footing.footing in
    let qs = friction_list c.in_ok-frictions.frictions in
    let stands = c.in_ok-footing.ensures in
    let fetched = c.in_ok-frictions.ensures in
    let r : c.resistance.result ≡ resistance_by answer ls n = c.resistance.ensures.value ∙ ap (λ (xs : List Layer). resistance_over xs (numbers_on f) qs) stands.1.0
    ∙ ap (λ (m : PileNumbers). resistance_over ls m qs) stands.1.1 ∙ ap (resistance_over ls n) fetched.1 in
    let same : c.judgement.result ≡ judgement_of (resistance_by answer ls n) q = c.judgement.ensures ∙ ap (λ (x : ℕ). judgement_of x q) r in
    let asked : question_flaw q ≡ None = granted _ c.in_ok-check_question.ensures in
    let deep : n.length ≤ depth ls = omega (arith, f.deep, ap depth stands.1.0, ap needed_depth stands.1.1) in
    let near = resistance_near tolerance fraction answer (g.met.R.FrictionRule.within rule) ls n deep fetched.0 in (
      or_free _ _ asked (or_free _ _ stands.0 fetched.0),
      record {
        same = same;
        near = subst (λ (j : Judgement). Near (margin_of tolerance n) j.resistance (exact_resistance fraction ls n)) (sym same) near;
      },
    )
