use Rattle.std.proofs.Common.{◌≡◌, ℕ, List, None}
use Rattle.transfer.specs.declared.Place.TheVariants as place
use Rattle.ground.specs.declared.layer.Layer.{Layer}
use Rattle.ground.specs.Table.{strata}
use Rattle.pile.specs.declared.numbers.PileNumbers.{PileNumbers}
use Rattle.pile.specs.Driven.{numbers_of}
use Rattle.resistance.specs.Judging.{load_flaw}
use Rattle.terms.proofs.Chained.{granted}
use Rattle.shaft.specs.Attached.{strain_refusal}
use Rattle.shaft.specs.Standing.{StandsOn}
use Rattle.settling.specs.Piles.{shaft_frictions}
use Rattle.settling.proofs.Standing.{told, answered}
use Rattle.settling.proofs.settle.Goals as goal

pub returns : goal.returns
returns g c =
    let law = c.args.law.now in
    let keeps = g.met.L.TransferLaw.keeps law in
    let answer = g.R.FrictionRule.answer c.args.rule.now in
    let shaft = g.L.TransferLaw.curve law place.Shaft in
    let tip = g.L.TransferLaw.curve law place.Tip in
    let load = c.args.load in
    let ls = strata c.args.ground.now in
    let n = numbers_of c.args.pile.now in
    let s = c.in_ok-shaft.shaft in
    let founded = c.in_ok-footing.ensures in
    let fetched = c.in_ok-frictions.ensures in
    let asked : load_flaw load ≡ None = granted _ c.in_ok-check_load.ensures in
    let stands = told (λ (zs : List Layer) (r : PileNumbers) (qs : List ℕ). (strain_refusal zs r qs ≡ None) × StandsOn zs r qs s) _ ls _ n _ (shaft_frictions answer ls n) founded.1.0 founded.1.1 fetched.1 c.in_ok-shaft.ensures in
    answered answer shaft tip (keeps place.Shaft) (keeps place.Tip) load asked ls n s stands.1 c.settlement.result c.ok_or.result founded.0 fetched.0 stands.0 c.settlement.ensures c.ok_or.ensures.value
