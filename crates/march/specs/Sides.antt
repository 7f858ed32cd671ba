-- Either march, by its side, and the node at which it ends.
use Rattle.std.specs.Prelude.{ℕ, List}
use Rattle.column.specs.declared.Part.{Part}
use Rattle.column.specs.declared.Node.{Node}
use Rattle.column.specs.Case.{Case}
use Rattle.column.specs.Nodes.{Nodes, last, head_node}
use Rattle.column.specs.Marches.{climb, lower_tip, lower_step, lower_march, upper_tip, upper_step, upper_march}
use Rattle.march.specs.declared.Side.{Side}
use Rattle.march.specs.declared.Side.TheVariants.{Lower, Upper}

abbrev pub march_by : Side → Case → ℕ → Nodes
march_by Lower = lower_march
march_by Upper = upper_march

-- the head of the pile, from the tip displacement s in nm
abbrev pub head_by : Side → Case → ℕ → Node
head_by side c s = head_node (march_by side c s)

-- where it starts, and how it goes over a slice
abbrev pub tip_by : Side → Case → ℕ → Node
tip_by Lower = lower_tip
tip_by Upper = upper_tip

abbrev pub step_by : Side → Case → Part → Node → Node
step_by Lower = lower_step
step_by Upper = upper_step

-- the node on top of the slices, where n is the one under them and f leads over a slice
abbrev pub head_over : (Part → Node → Node) → Node → List Part → Node
head_over f n slices = last n (climb f n slices)
