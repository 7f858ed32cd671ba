-- One step of a march: what is ahead shrinks.
use Rattle.std.proofs.Common.{◌≡◌, ℕ, ◌+◌, ◌*◌, ◌/◌, ◌<◌, ◌≤◌, le_refl, mul-le-mul_right, mul-le-mul_left, lt_of_mul-lt-mul_right, arith}
use Rattle.std.proofs.lemmas.Grind.{div_ceil_times}
use Rattle.std.specs.Int.{div_ceil}
use Rattle.column.specs.declared.Part.{Part}
use Rattle.column.specs.declared.Node.{Node}
use Rattle.transfer.specs.Curve.{Capped}
use Rattle.column.specs.Rounding.{ceil}
use Rattle.column.specs.Case.{Case, shaft_v, shaft_w, skin}
use Rattle.column.specs.Marches.{furthest, upper_force, lower_step, upper_step}
use Rattle.column.proofs.Rounding.{ceil_most, ceil_reaches, floor_ceil}
use Rattle.shaft.specs.Room.{part_resistance, most_strain}
use Rattle.march.specs.Ahead.{Ahead}

-- the library's quotient rounded up
pub div_ceil_is : (a b : ℕ) → 0 < b → div_ceil a b ≡ ceil a b
div_ceil_is a b pos =
    let bounds = div_ceil_times a b pos in
    let least : ceil a b ≤ div_ceil a b = ceil_most b (div_ceil a b) a pos (omega (arith, bounds.0)) in
    let reaches = ceil_reaches a b pos in
    let most : div_ceil a b < ceil a b + 1 = lt_of_mul-lt-mul_right b (omega (arith, bounds.1)) in
    omega arith

-- a force N that strains the pile by at most `most_strain`, over a height h
record Pushed (S N h : ℕ) : Type 0 where
  down : N * h / S ≤ most_strain * h
  up : ceil (N * h) S ≤ most_strain * h

pushed : (S N h : ℕ) → 0 < S → N ≤ most_strain * S → Pushed S N h
pushed S N h pos le =
    let product : N * h ≤ most_strain * S * h = mul-le-mul_right h le in
    let up : ceil (N * h) S ≤ most_strain * h = ceil_most S (most_strain * h) (N * h) pos (omega arith) in
    record { down = omega (arith, floor_ceil S (N * h) (N * h) pos (le_refl _)); up = up }

-- one step leaves what is ahead of it
pub ahead_lower : (c : Case) → Capped c.shaft → (g : Part) (n : Node) (H F : ℕ) →
    Ahead c.body n (g.height + H) (part_resistance c.body g + F) → Ahead c.body (lower_step c g n) H F
ahead_lower c capped g n H F a =
    let cap : shaft_v c g n.displacement ≤ g.friction = capped g.soil g.modulus g.friction c.body.diameter n.displacement in
    let rub = mul-le-mul_left (skin c g) cap in
    let all : n.force + (skin c g * g.friction + F) ≤ most_strain * c.body.stiffness = a.force in
    let less : n.force ≤ most_strain * c.body.stiffness = omega arith in
    record {
      bodied = a.bodied;
      force = omega (arith, rub);
      displacement = omega (arith, a.displacement, (pushed c.body.stiffness n.force g.height a.bodied.0 less).down);
    }

pub ahead_upper : (c : Case) (g : Part) (n : Node) (H F : ℕ) →
    Ahead c.body n (g.height + H) (part_resistance c.body g + F) → Ahead c.body (upper_step c g n) H F
ahead_upper c g n H F a =
    let cap : shaft_w c g (furthest c g n) ≤ g.friction = omega arith in
    let rub = mul-le-mul_left (skin c g) cap in
    let all : n.force + (skin c g * g.friction + F) ≤ most_strain * c.body.stiffness = a.force in
    let load : upper_force c g n ≤ most_strain * c.body.stiffness = omega (arith, rub) in
    record {
      bodied = a.bodied;
      force = omega (arith, rub);
      displacement = omega (arith, a.displacement, (pushed c.body.stiffness (upper_force c g n) g.height a.bodied.0 load).up);
    }
