use Rattle.std.proofs.Common.{subst, arith}
use Rattle.ground.specs.Edits.{no_layer}
use Rattle.pile.specs.Bearing.{BearsAlone}
use Rattle.pile.proofs.Bearings.{top_more, bearing_again, bears_here}
use Rattle.pile.proofs.tip.bearing_layer.Goals as goal

pub returns-then-at-top : goal.returns-then-at-top
returns-then-at-top c =
    let xs = c.layers-layer-items.result.now in
    let inv = c.loop-index.invariant in
    subst (λ zs. BearsAlone zs c.args.at (record { index = c.loop-index.index; top = c.loop-index.top })) c.layers-layer-items.ensures.value
    (bears_here xs c.loop-index.index c.args.at c.loop-index.top c.loop-index-test.true inv.0 inv.1 inv.2 c.if-at-top.true)

pub loop-index-preserved : goal.loop-index-preserved
loop-index-preserved c =
    let xs = c.layers-layer-items.result.now in
    let i = c.loop-index.index in
    let inside = c.loop-index-test.true in
    let inv = c.loop-index.invariant in (
      omega (arith, inv.0, top_more xs i no_layer inside),
      omega (arith, inv.1, c.if-at-top.false),
      bearing_again xs i c.args.at c.loop-index.top inside inv.1 c.if-at-top.false inv.2,
    )
