-- What a law answers, against its curve.
use Rattle.std.proofs.Common.{◌≡◌, ℕ, ◌≤◌, arith}
use Rattle.terms.specs.declared.limits.Limits.{Limits}
use Rattle.terms.specs.Limits.{Within, nearest, soil_limits, modulus_limits, unit_resistance_limits, diameter_limits, displacement_limits}
use Rattle.transfer.specs.Curve.{Curve, Capped}
use Rattle.transfer.specs.Asked.{asked}

-- what is inside its limits is the nearest to itself
pub nearest_inside : (l : Limits) (x : ℕ) → Within l x → nearest l x ≡ x
nearest_inside l x h = omega arith

-- inside the limits a law answers its curve
pub asked_inside : (curve : Curve) (soil modulus resistance width s : ℕ)
    → Within soil_limits soil
    → Within modulus_limits modulus
    → Within unit_resistance_limits resistance
    → Within diameter_limits width
    → Within displacement_limits s
    → asked curve soil modulus resistance width s ≡ curve soil modulus resistance width s
asked_inside curve soil modulus resistance width s h1 h2 h3 h4 h5 =
    let e1 = nearest_inside soil_limits soil h1 in
    let e2 = nearest_inside modulus_limits modulus h2 in
    let e3 = nearest_inside unit_resistance_limits resistance h3 in
    let e4 = nearest_inside diameter_limits width h4 in
    let e5 = nearest_inside displacement_limits s h5 in
    cc

-- an answer never exceeds the unit resistance taken inside
pub asked_capped : (curve : Curve)
    → Capped curve
    → (soil modulus resistance width s : ℕ)
    → asked curve soil modulus resistance width s ≤ nearest unit_resistance_limits resistance
asked_capped curve h soil modulus resistance width s =
    h
    (nearest soil_limits soil)
    (nearest modulus_limits modulus)
    (nearest unit_resistance_limits resistance)
    (nearest diameter_limits width)
    (nearest displacement_limits s)
