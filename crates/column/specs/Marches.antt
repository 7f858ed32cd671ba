-- The lower and the upper march: up the slices from a whole displacement s of the tip, in whole nm and µN.
use Rattle.std.specs.Prelude.{ℕ, ◌+◌, ◌*◌, ◌/◌, List, [], ◌∷◌}
use Rattle.column.specs.declared.Part.{Part}
use Rattle.column.specs.declared.Node.{Node}
use Rattle.column.specs.Rounding.{ceil}
use Rattle.column.specs.Case.{Case, shaft_v, shaft_w, tip_v, tip_w, skin}
use Rattle.column.specs.Nodes.{Nodes, end_force}

-- the nodes above n, one for each slice, where f leads over a slice
abbrev pub climb : (Part → Node → Node) → Node → List Part → List Node
climb f n [] = []
climb f n (g ∷ gs) = f g n ∷ climb f (f g n) gs

-- lower march: N = A·v(s) at the tip
abbrev pub lower_tip : Case → ℕ → Node
lower_tip c s = record { displacement = s; force = c.body.tip_area * tip_v c s }

-- over a slice s + N·h/S rounded down, and N + P·h·v(s), both from the old s and N
abbrev pub lower_step : Case → Part → Node → Node
lower_step c g n = record {
  displacement = n.displacement + n.force * g.height / c.body.stiffness;
  force = n.force + skin c g * shaft_v c g n.displacement;
}

abbrev pub lower_march : Case → ℕ → Nodes
lower_march c s = record { tip = lower_tip c s; above = climb (lower_step c) (lower_tip c s) c.slices }

-- the force at which it ends
abbrev pub lower_end : Case → ℕ → ℕ
lower_end c s = end_force (lower_march c s)

-- upper march: N = A·w(s) at the tip
abbrev pub upper_tip : Case → ℕ → Node
upper_tip c s = record { displacement = s; force = c.body.tip_area * tip_w c s }

-- z = s + (N + P·h·q)·h/S rounded up: no balanced column moves further over the slice
abbrev pub furthest : Case → Part → Node → ℕ
furthest c g n = n.displacement + ceil ((n.force + skin c g * g.friction) * g.height) c.body.stiffness

-- N + P·h·w(z)
abbrev pub upper_force : Case → Part → Node → ℕ
upper_force c g n = n.force + skin c g * shaft_w c g (furthest c g n)

-- over a slice that force, and s + that force × h/S rounded up
abbrev pub upper_step : Case → Part → Node → Node
upper_step c g n = record {
  displacement = n.displacement + ceil (upper_force c g n * g.height) c.body.stiffness;
  force = upper_force c g n;
}

abbrev pub upper_march : Case → ℕ → Nodes
upper_march c s = record { tip = upper_tip c s; above = climb (upper_step c) (upper_tip c s) c.slices }

abbrev pub upper_end : Case → ℕ → ℕ
upper_end c s = end_force (upper_march c s)
