-- A friction is at most 500,000 Pa.
use Rattle.std.specs.Prelude.{ℕ, Bool, not, List}
use Rattle.std.specs.List.{list_all}
use Rattle.terms.specs.Limits.{outside, friction_limits}

abbrev pub all_moderate : List ℕ → Bool
all_moderate = list_all (λ q. not (outside friction_limits q))
