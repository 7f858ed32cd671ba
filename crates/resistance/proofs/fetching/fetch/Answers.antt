use Rattle.std.proofs.Common.{rules, ◌≡◌, ℕ, ◌-◌, ◌<◌, [], ◌∷◌, ◌++◌, length, drop, get_or, Some, sym, ap, ◌∙◌, arith}
use Rattle.std.proofs.lemmas.List.{length_push}
use Rattle.ground.specs.Edits.{no_layer}
use Rattle.ground.proofs.Tables.{sound_at}
use Rattle.pile.specs.declared.numbers.PileNumbers.{PileNumbers}
use Rattle.pile.specs.Driven.{numbers_of}
use Rattle.pile.specs.FrictionList.{friction_list}
use Rattle.pile.specs.Shaft.{parts_above}
use Rattle.pile.proofs.Bounds.{layer_bounds}
use Rattle.resistance.specs.UnitFriction.{friction_of}
use Rattle.resistance.specs.Fetched.{said_of}
use Rattle.resistance.proofs.OneLayer.{no_parts, parts_here, pushed, answered_here, one_on}
use Rattle.resistance.proofs.fetching.fetch.Goals as goal

pub friction_of-requires : goal.friction_of-requires
friction_of-requires g c =
    let xs = c.layers-layer-items.result.now in
    let bounds = layer_bounds (get_or xs c.loop-index.index no_layer) (sound_at xs c.loop-index.index no_layer c.loop-index-test.true c.layers-layer-items.ensures.fit) in
    bounds.ceiling.1

pub loop-index-preserved : goal.loop-index-preserved
loop-index-preserved g c =
    let answer = g.R.FrictionRule.answer c.args.rule.now in
    let n = numbers_of c.args.pile.now in
    let xs = c.layers-layer-items.result.now in
    let k = c.loop-index.index in
    let l = get_or xs k no_layer in
    let inv = c.loop-index.invariant in
    let was = friction_list c.loop-index.frictions in
    let next = friction_list c.push.new.self in
    let q = c.friction_of.result in
    let a = c.in_ok-answer.answer in
    let same = c.numbers-numbers.ensures.value in
    let more : 0 < c.loop-index.left = omega arith in
    let lower : c.saturating_sub-left.result ≡ c.loop-index.left - l.thickness = omega arith in
    let here = parts_here c.loop-index.left c.saturating_sub-left.result xs k c.loop-index-test.true more lower in
    let said : said_of answer n l ≡ Some a = sym (ap (λ (m : PileNumbers). said_of answer m l) same) ∙ sym c.ask.ensures ∙ c.in_ok-answer.ensures.ok_part in
    let one : q ≡ friction_of n l a = c.friction_of.ensures.value ∙ ap (λ (m : PileNumbers). friction_of m l a) same in
    let end : next ≡ was ++ q ∷ [] = pushed c.loop-index.frictions c.push.new.self q c.push.result _ c.unwrap.ensures c.push.ensures in (
      omega (arith, ap length end, length_push was q, inv.0),
      one_on answer n _ _ _ here a said was next _ (end ∙ ap (λ (x : ℕ). was ++ x ∷ []) one) inv.1,
      sym (answered_here answer n _ _ _ here a said k) ∙ inv.2,
    )

pub returns-then-left-eq0 : goal.returns-then-left-eq0
returns-then-left-eq0 g c =
    let below = drop c.loop-index.index c.layers-layer-items.result.now in
    let none : parts_above c.loop-index.left below ≡ [] = ap (λ (d : ℕ). parts_above d below) c.if-left-eq0.true ∙ no_parts below in
    search rules
