-- How large a margin gets.
use Rattle.std.proofs.Common.{◌≡◌, ℕ, ◌+◌, ◌*◌, ◌≤◌, true, mul-le-mul, arith}
use Rattle.pile.specs.declared.numbers.PileNumbers.{PileNumbers}
use Rattle.pile.specs.Numbers.{sturdy}
use Rattle.pile.proofs.Bounds.{pile_bounds}

pub margin_most : (t : ℕ) (n : PileNumbers) → t ≤ 11 → sturdy n ≡ true → t * n.perimeter * n.length + n.tip_area ≤ 2758000000
margin_most t n h k =
    let bounds = pile_bounds n k in
    omega (arith, mul-le-mul (mul-le-mul h bounds.perimeter.1) bounds.length.1, bounds.tip_area.1)
