-- The nodes of a column: the tip, and the upper end of each slice, from the tip up.
use Rattle.std.specs.Prelude.{ℕ, List, [], ◌∷◌, slice_index_or}
use Rattle.column.specs.declared.Node.{Node}

pub record Nodes : Type 0 where
  pub tip : Node
  pub above : List Node

abbrev pub last : Node → List Node → Node
last n [] = n
last n (m ∷ ms) = last m ms

-- the head is the uppermost node, or the tip where there is no slice
abbrev pub head_node : Nodes → Node
head_node x = last x.tip x.above

-- the force at the head: what the column carries
abbrev pub end_force : Nodes → ℕ
end_force x = (head_node x).force

abbrev pub nowhere : Node
nowhere = record { displacement = 0; force = 0 }

-- node i, the tip being node 0
abbrev pub node : Nodes → ℕ → Node
node x i = slice_index_or (x.tip ∷ x.above) i nowhere
