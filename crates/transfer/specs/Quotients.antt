-- Quotients rounded down: in order where the fractions are.
use Rattle.std.specs.Prelude.{ℕ, zero, suc, ◌*◌, ◌/◌, ◌<◌, ◌≤◌}
use Rattle.std.proofs.Common.{zero-le, le_trans, div-mul-le_self, mul-le-mul_right, le_of_mul-le-mul_right, le-div_iff_mul-le, arith}
use Rattle.std.proofs.Math.Nat.{div-zero}

-- a/b ≤ c/d where a·d ≤ c·b
pub div_cross : (a b c d : ℕ) → 0 < b → 0 < d → a * d ≤ c * b → a / b ≤ c / d
div_cross a b c d pb pd h =
    let f : a / b * b * d ≤ a * d = mul-le-mul_right d (div-mul-le_self a b) in
    let g : a / b * d * b ≤ c * b = omega arith in
    (le-div_iff_mul-le pd).1 (le_of_mul-le-mul_right g pb)

-- a quotient does not fall as what is divided grows; of k = 0 both are 0
pub div_mono : (a b k : ℕ) → a ≤ b → a / k ≤ b / k
div_mono a b zero h = simp div-zero zero-le
div_mono a b (suc k) h = (le-div_iff_mul-le (omega arith)).1 (le_trans (div-mul-le_self a (suc k)) h)
