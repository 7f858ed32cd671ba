use Rattle.std.proofs.Common.{◌<◌, length, get_or, ap, arith}
use Rattle.ground.specs.Edits.{no_layer}
use Rattle.ground.proofs.Tables.{sound_at}
use Rattle.pile.proofs.Bounds.{layer_bounds}
use Rattle.shaft.proofs.Bodies.{stiffness_size, body_fits}
use Rattle.shaft.proofs.held.making.body_on.Goals as goal

pub overflow_mul-result : goal.overflow_mul-result
overflow_mul-result c = omega (arith, (stiffness_size c.numbers-numbers.result c.numbers-numbers.ensures.fit).1)

pub returns-clause-bodied : goal.returns-clause-bodied
returns-clause-bodied c = body_fits c.numbers-numbers.result c.numbers-numbers.ensures.fit

pub returns-clause-borne : goal.returns-clause-borne
returns-clause-borne c =
    let zs = c.layers.result.now in
    let i = c.bearing.result.index in
    let there : i < length zs = omega (arith, c.bearing.ensures.bears.there, ap length c.layers.ensures.value) in
    let bounds = layer_bounds (get_or zs i no_layer) (sound_at zs i no_layer there c.layers.ensures.fit) in
    (bounds.soil, bounds.modulus, c.tip_resistance.ensures.small)
