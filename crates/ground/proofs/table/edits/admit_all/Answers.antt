use Rattle.std.proofs.Common.{get_or, take, sym, ap, ◌∙◌, arith, rules}
use Rattle.std.proofs.lemmas.List.{take_more, at_drop_all}
use Rattle.terms.specs.Chains.{unless}
use Rattle.terms.proofs.Chained.{granted, refused}
use Rattle.ground.specs.Layers.{depth}
use Rattle.ground.specs.Edits.{no_layer, lay_all_refusal}
use Rattle.ground.proofs.Tables.{depth_push}
use Rattle.ground.proofs.Laying.{layable, lay_on, lay_stops}
use Rattle.ground.proofs.table.edits.admit_all.Goals as goal

pub returns-in_err-admit : goal.returns-in_err-admit
returns-in_err-admit c =
    let stops = lay_stops c.args.layers.now c.loop-i.i no_layer _ c.loop-i-test.true (refused _ _ c.in_err-admit.ensures) in
    search (rules, ap unless (sym stops ∙ c.loop-i.invariant.1))

pub loop-i-preserved : goal.loop-i-preserved
loop-i-preserved c =
    let xs = c.args.layers.now in
    let i = c.loop-i.i in
    let clear = granted _ c.in_ok-admit.ensures in
    let here = layable (take i xs) (get_or xs i no_layer) clear in
    let more = ap depth (take_more xs i no_layer c.loop-i-test.true) in (
      omega (arith, more, depth_push (take i xs) (get_or xs i no_layer), here.shallow),
      sym (lay_on xs i no_layer c.loop-i-test.true clear) ∙ c.loop-i.invariant.1,
    )

pub returns : goal.returns
returns c =
    let xs = c.args.layers.now in
    let i = c.loop-i.i in
    ap unless (sym (at_drop_all (lay_all_refusal (take i xs)) xs i c.loop-i-test.false) ∙ c.loop-i.invariant.1)
