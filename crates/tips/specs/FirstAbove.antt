-- The smallest tip displacement from which either march ends above a force.
use Rattle.std.specs.Prelude.{ℕ, ◌<◌, ◌≤◌}
use Rattle.column.specs.Case.{Case}
use Rattle.column.specs.Marches.{lower_end, upper_end}
use Rattle.march.specs.declared.Side.{Side}
use Rattle.march.specs.declared.Side.TheVariants.{Lower, Upper}

-- the force (µN) at which either march from the tip displacement s (nm) ends
abbrev pub end_by : Side → Case → ℕ → ℕ
end_by Lower = lower_end
end_by Upper = upper_end

-- s is the smallest tip displacement in 0 to T whose march ends above F
pub record FirstAbove (side : Side) (c : Case) (T F s : ℕ) : Type 0 where
  pub within : s ≤ T
  pub above : F < end_by side c s
  pub smallest : (t : ℕ) → t ≤ T → F < end_by side c t → s ≤ t
