-- What the two marches say of every balanced column, and the theorem that they do.
use Rattle.std.specs.Prelude.{◌≡◌, ℕ, ◌*◌, ◌<◌, ◌≤◌, length}
use Rattle.column.specs.declared.Node.{Node}
use Rattle.column.specs.Case.{Case, Sound}
use Rattle.column.specs.Nodes.{Nodes, node, end_force}
use Rattle.column.specs.Balanced.{Balanced, Carries}
use Rattle.column.specs.Marches.{lower_march, upper_march, lower_end, upper_end}
use Rattle.column.specs.Tips.{IsLowerTip, IsUpperTip}

-- the node n of a column of scale k is between two whole nodes, in displacement and in force
pub record Between (k : ℕ) (low n high : Node) : Type 0 where
  pub displacement_least : k * low.displacement ≤ n.displacement
  pub displacement_most : n.displacement ≤ k * high.displacement
  pub force_least : k * low.force ≤ n.force
  pub force_most : n.force ≤ k * high.force

-- every balanced column that carries F is, at every node, between the lower march from lo and the upper march from hi
abbrev pub Inside : Case → ℕ → ℕ → ℕ → Type 0
Inside c F lo hi =
    (k : ℕ) (x : Nodes) → Balanced c k x → Carries F k x
    → (i : ℕ) → i ≤ length c.slices → Between k (node (lower_march c lo) i) (node x i) (node (upper_march c hi) i)

-- a balanced column whose tip has moved exactly s
pub record ColumnFrom (c : Case) (s : ℕ) : Type 0 where
  pub scale : ℕ
  pub nodes : Nodes
  pub balanced : Balanced c scale nodes
  pub moved : nodes.tip.displacement ≡ s * scale

-- with its tip at s, some balanced column carries less than F
pub record CarriesLess (c : Case) (F s : ℕ) : Type 0 where
  pub column : ColumnFrom c s
  pub less : end_force column.nodes < F * column.scale

-- with its tip at s, some balanced column carries more than F
pub record CarriesMore (c : Case) (F s : ℕ) : Type 0 where
  pub column : ColumnFrom c s
  pub more : F * column.scale < end_force column.nodes

-- some balanced column carries exactly F
pub record CarriesExactly (c : Case) (F : ℕ) : Type 0 where
  pub scale : ℕ
  pub nodes : Nodes
  pub balanced : Balanced c scale nodes
  pub carries : Carries F scale nodes

-- lo and hi bracket the load F
pub record Bracketed (c : Case) (F lo hi : ℕ) : Type 0 where
  pub inside : Inside c F lo hi
  pub less_at_lower : CarriesLess c F lo
  pub more_at_upper : CarriesMore c F hi
  pub some_exactly : CarriesExactly c F

-- the lower and the upper tip displacement of a load bracket it
abbrev pub BracketStands : Type 0
BracketStands = (c : Case) → Sound c → (T F lo hi : ℕ) → 1 ≤ F → IsLowerTip c T F lo → IsUpperTip c T F hi → Bracketed c F lo hi

-- a tip pushed further never lowers the force at which a march ends
abbrev pub EndsRise : Type 0
EndsRise = (c : Case) → Sound c → (s t : ℕ) → s ≤ t → (lower_end c s ≤ lower_end c t) × (upper_end c s ≤ upper_end c t)
