-- The two tip displacements of a load F (µN), between 0 and T (nm).
use Rattle.std.specs.Prelude.{◌≡◌, ℕ, zero, suc, ◌*◌, ◌<◌, ◌≤◌, Bool, not, ◌&&◌, ◌⊎◌, nat_lt}
use Rattle.column.specs.declared.PileBody.{PileBody}
use Rattle.column.specs.Case.{Case}
use Rattle.column.specs.Marches.{lower_end, upper_end}

-- T = 100,000·B: a tenth of the diameter
abbrev pub tip_range : PileBody → ℕ
tip_range b = 100000 * b.diameter

-- s is the largest tip displacement in 0 to T whose upper march ends below F
pub record LargestBelow (c : Case) (T F s : ℕ) : Type 0 where
  pub within : s ≤ T
  pub below : upper_end c s < F
  pub largest : (t : ℕ) → t ≤ T → upper_end c t < F → t ≤ s

-- or there is none, and s is 0
pub record NoneBelow (c : Case) (T F s : ℕ) : Type 0 where
  pub zero : s ≡ 0
  pub none : (t : ℕ) → t ≤ T → F ≤ upper_end c t

-- s is the lower tip displacement
abbrev pub IsLowerTip : Case → ℕ → ℕ → ℕ → Type 0
IsLowerTip c T F s = LargestBelow c T F s ⊎ NoneBelow c T F s

-- s is the upper tip displacement: the smallest in 0 to T whose lower march ends above F
pub record IsUpperTip (c : Case) (T F s : ℕ) : Type 0 where
  pub within : s ≤ T
  pub above : F < lower_end c s
  pub smallest : (t : ℕ) → t ≤ T → F < lower_end c t → s ≤ t

-- some lower march in 0 to T ends above F
pub record MarchAbove (c : Case) (T F : ℕ) : Type 0 where
  pub from : ℕ
  pub within : from ≤ T
  pub above : F < lower_end c from

-- f holds nowhere in 0 to n
unfoldable pub nowhere_to : (ℕ → Bool) → ℕ → Bool
nowhere_to f zero = not (f zero)
nowhere_to f (suc n) = not (f (suc n)) && nowhere_to f n

-- no lower march in 0 to T ends above F, as a test
abbrev pub no_march_above : Case → ℕ → ℕ → Bool
no_march_above c T F = nowhere_to (λ s. nat_lt F (lower_end c s)) T
