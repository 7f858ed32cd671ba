use Rattle.std.proofs.Common.{◌≤◌, ◌+◌, ◌-◌, ◌*◌, arith}
use Rattle.ground.specs.Table.{strata}
use Rattle.pile.proofs.Bounds.{pile_bounds}
use Rattle.pile.proofs.Integrals.{integral_most}
use Rattle.pile.proofs.Tips.{factor_size, tip_size}
use Rattle.pile.proofs.footing.Footing.tip_resistance.Goals as goal

pub overflow_mul-result-2 : goal.overflow_mul-result-2
overflow_mul-result-2 c =
    let r = c.numbers-numbers.result in
    let bounds = pile_bounds r c.numbers-numbers.ensures.fit in
    let own = pile_bounds c.args.self.now.pile.now.numbers c.args.self.now.pile.now.fit in
    let around = c.min-above.result + 3 * c.half_height-below.result in
    let most = integral_most (strata c.args.self.now.ground.now) (r.length - c.min-above.result) (r.length + 3 * c.half_height-below.result) c.args.self.now.ground.now.fit in
    let sum : c.pressure_between-integral.result ≤ 10000 * around = omega (arith, most, c.pressure_between-integral.ensures) in
    omega (arith, own.diameter, factor_size r.tip_factor c.pressure_between-integral.result around bounds.tip_factor.1 sum)

pub returns-clause-small : goal.returns-clause-small
returns-clause-small c =
    let r = c.numbers-numbers.result in
    let bounds = pile_bounds r c.numbers-numbers.ensures.fit in
    let around = c.min-above.result + 3 * c.half_height-below.result in
    let most = integral_most (strata c.args.self.now.ground.now) (r.length - c.min-above.result) (r.length + 3 * c.half_height-below.result) c.args.self.now.ground.now.fit in
    tip_size r.tip_factor c.pressure_between-integral.result around bounds.tip_factor.1 (omega (arith, most, c.pressure_between-integral.ensures))
