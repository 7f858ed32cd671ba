-- The body of a pile inside its limits, and on the layer that bears it.
use Rattle.std.proofs.Common.{◌≡◌, ◌<◌, ◌≤◌, true, mul-le-mul, arith}
use Rattle.terms.specs.Limits.{Within, perimeter_limits, diameter_limits}
use Rattle.pile.specs.declared.numbers.PileNumbers.{PileNumbers}
use Rattle.pile.specs.Numbers.{sturdy}
use Rattle.pile.proofs.Bounds.{pile_bounds}
use Rattle.shaft.specs.Room.{stiffest}
use Rattle.shaft.specs.Attached.{stiffness_of}

pub stiffness_size : (n : PileNumbers) → sturdy n ≡ true → (0 < stiffness_of n) × (stiffness_of n ≤ stiffest)
stiffness_size n h =
    let bounds = pile_bounds n h in
    (omega (arith, mul-le-mul bounds.modulus.0 bounds.section.0), omega (arith, mul-le-mul bounds.modulus.1 bounds.section.1))

-- what of a body is of a pile's numbers
pub body_fits : (n : PileNumbers) → sturdy n ≡ true
    → (0 < stiffness_of n) × (stiffness_of n ≤ stiffest) × (n.perimeter ≤ perimeter_limits.most) × Within diameter_limits n.diameter
body_fits n h =
    let bounds = pile_bounds n h in
    let stiff = stiffness_size n h in
    (stiff.0, stiff.1, bounds.perimeter.1, bounds.diameter)
