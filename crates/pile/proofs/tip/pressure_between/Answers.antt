use Rattle.std.proofs.Common.{sym, ap, arith}
use Rattle.ground.specs.Table.{strata}
use Rattle.pile.specs.Pressure.{integral}
use Rattle.pile.proofs.Integrals.{integral_empty, integral_again, integral_end, integral_size}
use Rattle.pile.proofs.tip.pressure_between.Goals as goal

pub returns-then-to-from : goal.returns-then-to-from
returns-then-to-from c = sym (integral_empty (strata c.args.ground.now) c.args.from c.args.to (omega arith))

pub overflow_mul-sum : goal.overflow_mul-sum
overflow_mul-sum c =
    let xs = c.layers-layer-items.result.now in
    let small = integral_size xs c.loop-layer.layer-index c.loop-layer.sum c.min.result c.min-in-loop-layer.result c.loop-layer-test.true c.layers-layer-items.ensures.fit (omega (arith, c.min.ensures)) c.loop-layer.invariant.2 in
    omega (arith, small, c.layers-layer-items.ensures.shallow)

pub overflow_add-sum : goal.overflow_add-sum
overflow_add-sum c =
    let xs = c.layers-layer-items.result.now in
    let small = integral_size xs c.loop-layer.layer-index c.loop-layer.sum c.min.result c.min-in-loop-layer.result c.loop-layer-test.true c.layers-layer-items.ensures.fit (omega (arith, c.min.ensures)) c.loop-layer.invariant.2 in
    omega (arith, small, c.layers-layer-items.ensures.shallow)

pub loop-layer-preserved : goal.loop-layer-preserved
loop-layer-preserved c =
    let xs = c.layers-layer-items.result.now in
    let i = c.loop-layer.layer-index in
    let inside = c.loop-layer-test.true in
    let inv = c.loop-layer.invariant in (
      omega (arith, inv.0, c.saturating_sub-above.ensures, c.saturating_sub-below.ensures),
      integral_again xs i c.loop-layer.above c.loop-layer.below c.loop-layer.sum (integral xs c.args.from c.args.to) c.min.result c.min-in-loop-layer.result c.saturating_sub-above.result c.saturating_sub-below.result inside inv.0 c.min.ensures c.min-in-loop-layer.ensures c.saturating_sub-above.ensures c.saturating_sub-below.ensures inv.1,
      integral_size xs i c.loop-layer.sum c.min.result c.min-in-loop-layer.result inside c.layers-layer-items.ensures.fit (omega (arith, c.min.ensures)) inv.2,
    )

pub returns : goal.returns
returns c =
    let xs = c.layers-layer-items.result.now in
    let end = integral_end xs c.loop-layer.layer-index c.loop-layer.above c.loop-layer.below c.loop-layer-test.false in
    let whole = ap (λ zs. integral zs c.args.from c.args.to) c.layers-layer-items.ensures.value in
    omega (arith, end, whole, c.loop-layer.invariant.1)
