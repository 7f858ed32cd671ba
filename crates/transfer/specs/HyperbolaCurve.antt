-- The hyperbolic curve of a length above 0 is at rest at 0, rises and is capped.
use Rattle.std.proofs.Common.{ap, ◌∙◌, le_trans, div-mul-le_self, mul-le-mul_left, mul-zero, le_of_mul-le-mul_right, arith}
use Rattle.std.specs.Prelude.{ℕ, ◌+◌, ◌*◌, ◌/◌, ◌<◌, ◌≤◌}
use Rattle.std.proofs.Math.Nat.{zero-div}
use Rattle.transfer.specs.declared.Place.{Place}
use Rattle.transfer.specs.declared.Place.TheVariants.{Shaft, Tip}
use Rattle.transfer.specs.Curve.{Rest, Rising, Capped, Transfers}
use Rattle.transfer.specs.Hyperbola.{hyperbola, length_at}
use Rattle.transfer.specs.Quotients.{div_cross}

pub hyperbola_rest : (M : ℕ) → Rest (hyperbola M)
hyperbola_rest M soil modulus q width =
    ap (λ (n : ℕ). n / (M + 0)) (mul-zero q) ∙ zero-div (M + 0)

pub hyperbola_rising : (M : ℕ) → 0 < M → Rising (hyperbola M)
hyperbola_rising M pos soil modulus q width s t h =
    let k : q * M * s ≤ q * M * t = mul-le-mul_left (q * M) h in
    div_cross (q * s) (M + s) (q * t) (M + t) (omega arith) (omega arith) (omega arith)

pub hyperbola_capped : (M : ℕ) → 0 < M → Capped (hyperbola M)
hyperbola_capped M pos soil modulus q width s =
    let e : q * s / (M + s) * (M + s) ≤ q * (M + s) = le_trans (div-mul-le_self (q * s) (M + s)) (omega arith) in
    le_of_mul-le-mul_right e (omega arith)

hyperbola_transfers : (M : ℕ) → 0 < M → Transfers (hyperbola M)
hyperbola_transfers M pos = record { rest = hyperbola_rest M; rising = hyperbola_rising M pos; capped = hyperbola_capped M pos }

-- .. as are both curves of two such lengths
pub hyperbolas_transfer : (shaft tip : ℕ) → 0 < shaft → 0 < tip → (place : Place) → Transfers (hyperbola (length_at place shaft tip))
hyperbolas_transfer shaft tip some_shaft some_tip Shaft = hyperbola_transfers shaft some_shaft
hyperbolas_transfer shaft tip some_shaft some_tip Tip = hyperbola_transfers tip some_tip
