-- How great the tip resistance can be.
use Rattle.std.proofs.Common.{ℕ, ◌*◌, ◌/◌, ◌≤◌, mul-le-mul, arith}
use native.Mathlib.Nat.{div-le_of_le-mul}

-- the greatest tip factor and pressure
pub factor_size : (k sum l : ℕ) → k ≤ 400 → sum ≤ 10000 * l → 10 * k * sum ≤ l * 40000000
factor_size k sum l a b =
    let ten : 10 * k ≤ 4000 = omega arith in
    omega (arith, mul-le-mul ten b)

pub tip_size : (k sum l : ℕ) → k ≤ 400 → sum ≤ 10000 * l → 10 * k * sum / l ≤ 40000000
tip_size k sum l a b = div-le_of_le-mul l (factor_size k sum l a b)
