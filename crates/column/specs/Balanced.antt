-- When a column is in balance. Its displacements (nm) and forces (µN) are fractions over one common denominator, the column's scale k:
-- a node of displacement d and force N has moved d/k and carries N/k. Every condition is multiplied out by k, and by S where it divides.
use Rattle.std.specs.Prelude.{◌≡◌, ℕ, ◌+◌, ◌*◌, ◌/◌, ◌<◌, ◌≤◌, List, [], ◌∷◌}
use Rattle.column.specs.declared.Part.{Part}
use Rattle.column.specs.declared.Node.{Node}
use Rattle.column.specs.Rounding.{ceil}
use Rattle.column.specs.Case.{Case, shaft_v, shaft_w, tip_v, tip_w, skin}
use Rattle.column.specs.Nodes.{Nodes, end_force}

-- the tip force is between A·v(s rounded down) and A·w(s rounded up), where s is the tip displacement
pub record TipBalance (c : Case) (k : ℕ) (n : Node) : Type 0 where
  pub at_least : k * (c.body.tip_area * tip_v c (n.displacement / k)) ≤ n.force
  pub at_most : n.force ≤ k * (c.body.tip_area * tip_w c (ceil n.displacement k))

-- over a slice g of height h, with n at its lower end and m at its upper:
-- the force grows by at least P·h·v(lower displacement rounded down) and at most P·h·w(upper displacement rounded up),
-- the displacement by at least lower force × h/S and at most upper force × h/S
pub record SliceBalance (c : Case) (k : ℕ) (g : Part) (n m : Node) : Type 0 where
  pub force_least : n.force + k * (skin c g * shaft_v c g (n.displacement / k)) ≤ m.force
  pub force_most : m.force ≤ n.force + k * (skin c g * shaft_w c g (ceil m.displacement k))
  pub shortening_least : c.body.stiffness * n.displacement + n.force * g.height ≤ c.body.stiffness * m.displacement
  pub shortening_most : c.body.stiffness * m.displacement ≤ c.body.stiffness * n.displacement + m.force * g.height

-- over all slices above the node n, with one node above each
abbrev pub ShaftBalance : Case → ℕ → Node → List Part → List Node → Type 0
ShaftBalance c k n [] [] = Unit {0}
ShaftBalance c k n [] (m ∷ ms) = ⊥
ShaftBalance c k n (g ∷ gs) [] = ⊥
ShaftBalance c k n (g ∷ gs) (m ∷ ms) = SliceBalance c k g n m × ShaftBalance c k m gs ms

pub record Balanced (c : Case) (k : ℕ) (x : Nodes) : Type 0 where
  pub scale : 0 < k
  pub tip : TipBalance c k x.tip
  pub shaft : ShaftBalance c k x.tip c.slices x.above

-- a column of scale k carries the load F (µN) at its head
abbrev pub Carries : ℕ → ℕ → Nodes → Type 0
Carries F k x = end_force x ≡ F * k
