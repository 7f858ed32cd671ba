use Rattle.std.proofs.Common.{◌+◌, arith}
use Rattle.resistance.proofs.Sizes.{margin_most}
use Rattle.resistance.proofs.margin.margin.Goals as goal

pub overflow_mul-result-2 : goal.overflow_mul-result-2
overflow_mul-result-2 g c = omega (arith, margin_most (c.tolerance_in_pascals.result + 1) c.numbers-numbers.result (omega (arith, c.tolerance_in_pascals.ensures.small.1)) c.numbers-numbers.ensures.fit)

pub overflow_add-result-2 : goal.overflow_add-result-2
overflow_add-result-2 g c = omega (arith, margin_most (c.tolerance_in_pascals.result + 1) c.numbers-numbers.result (omega (arith, c.tolerance_in_pascals.ensures.small.1)) c.numbers-numbers.ensures.fit)
