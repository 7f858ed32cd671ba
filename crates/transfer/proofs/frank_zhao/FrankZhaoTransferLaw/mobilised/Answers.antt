-- Both products are at most those of the greatest factors, and so their sum fits 64 bits.
use Rattle.std.proofs.Common.{◌*◌, ◌≤◌, mul-le-mul, arith}
use Rattle.terms.specs.Limits.{modulus_limits, unit_resistance_limits, diameter_limits, displacement_limits}
use Rattle.transfer.proofs.frank_zhao.FrankZhaoTransferLaw.mobilised.Goals as goal

pub overflow_add-second : goal.overflow_add-second
overflow_add-second c =
    let steep : c.slope.result * c.take_nearest-modulus.result * c.take_nearest-displacement.result ≤ 110 * modulus_limits.most * displacement_limits.most =
    mul-le-mul {m₂ = displacement_limits.most} (mul-le-mul {m₂ = modulus_limits.most} c.slope.ensures.bound (omega arith)) (omega arith) in
    let flat : c.take_nearest-resistance.result * c.take_nearest-divisor.result ≤ unit_resistance_limits.most * diameter_limits.most =
    mul-le-mul {n₂ = unit_resistance_limits.most} {m₂ = diameter_limits.most} (omega arith) (omega arith) in
    omega arith
