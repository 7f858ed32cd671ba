-- The values of a list of frictions, and one more at its end.
use Rattle.std.specs.Prelude.{◌≡◌, ℕ, cond, Some, None, Ok, Err, Option, Result, List, [], ◌∷◌, ◌++◌, length, take, nat_le}
use Rattle.terms.specs.Limits.{outside, friction_limits, max_layers}
use Rattle.pile.specs.declared.frictions.Frictions.{Frictions}
use Rattle.pile.specs.declared.frictions.Unfit.{Unfit}
use Rattle.pile.specs.declared.frictions.Unfit.TheVariants.{Full, TooGreat}

abbrev pub friction_list : Frictions → List ℕ
friction_list f = take f.count f.values

-- the list is full, or else the friction above the greatest
abbrev pub unfit : List ℕ → ℕ → Option Unfit
unfit qs q = cond (nat_le max_layers (length qs)) (Some Full) (cond (outside friction_limits q) (Some TooGreat) None)

abbrev pub Pushes : Frictions → ℕ → Result (Unit {0}) Unfit → Frictions → Type 0
Pushes old q (Ok _) new = (unfit (friction_list old) q ≡ None) × (friction_list new ≡ friction_list old ++ q ∷ [])
Pushes old q (Err e) new = (unfit (friction_list old) q ≡ Some e) × (new ≡ old)
