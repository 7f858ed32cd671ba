-- The net limit pressure at a depth (kPa), and its integral between two depths (kPa·mm).
use Rattle.std.specs.Prelude.{ℕ, zero, suc, ◌+◌, ◌-◌, cond, List, [], ◌∷◌, nat_lt}
use Rattle.ground.specs.declared.layer.Layer.{Layer}

-- the pressure of the layer that holds the depth z: a layer holds its top and not its bottom; below the ground there is none
abbrev pub pressure_at : List Layer → ℕ → ℕ
pressure_at [] z = 0
pressure_at (l ∷ ls) z = cond (nat_lt z l.thickness) l.pressure (pressure_at ls (z - l.thickness))

-- f at each of the n whole numbers from a on
unfoldable pub sum_over : (ℕ → ℕ) → ℕ → ℕ → ℕ
sum_over f a zero = 0
sum_over f a (suc n) = f a + sum_over f (suc a) n

-- millimetre by millimetre, from one depth to another; 0 where the second is not below the first
abbrev pub integral : List Layer → ℕ → ℕ → ℕ
integral ls from to = sum_over (pressure_at ls) from (to - from)
