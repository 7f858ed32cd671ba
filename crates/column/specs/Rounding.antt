-- A quotient rounded up; `/` rounds down.
use Rattle.std.specs.Prelude.{ℕ, ◌+◌, ◌-◌, ◌/◌}

abbrev pub ceil : ℕ → ℕ → ℕ
ceil a b = (a + (b - 1)) / b
