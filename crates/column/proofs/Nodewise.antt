-- Two columns node by node.
use Rattle.std.proofs.Common.{◌≡◌, ℕ, suc, ◌*◌, ◌<◌, ◌≤◌, List, [], ◌∷◌, length, get_or, refl, ap}
use Rattle.std.specs.List.{AllZip}
use Rattle.std.proofs.lemmas.List.Elements.{AllZip-get_or}
use Rattle.column.specs.declared.Part.{Part}
use Rattle.column.specs.declared.Node.{Node}
use Rattle.column.specs.Nodes.{Nodes, last, nowhere}
use Rattle.column.specs.Marches.{climb}

-- a whole node, taken k times, is at most the node n; or at least
pub record AtLeast (k : ℕ) (whole n : Node) : Type 0 where
  pub displacement : k * whole.displacement ≤ n.displacement
  pub force : k * whole.force ≤ n.force

pub record AtMost (k : ℕ) (whole n : Node) : Type 0 where
  pub displacement : n.displacement ≤ k * whole.displacement
  pub force : n.force ≤ k * whole.force

-- R holds node by node
abbrev pub Each : (Node → Node → Type 0) → List Node → List Node → Type 0
Each = AllZip

abbrev pub Every : (Node → Node → Type 0) → Nodes → Nodes → Type 0
Every R x y = R x.tip y.tip × Each R x.above y.above

-- what holds node by node holds at the head
pub each_last : (R : Node → Node → Type 0) (n m : Node) (ns ms : List Node) → R n m → Each R ns ms → R (last n ns) (last m ms)
each_last R n m [] [] h e = h
each_last R n m [] (y ∷ ys) h e = absurd e
each_last R n m (x ∷ xs) [] h e = absurd e
each_last R n m (x ∷ xs) (y ∷ ys) h e = each_last R x y xs ys e.0 e.1

pub every_last : (R : Node → Node → Type 0) (x y : Nodes) → Every R x y → R (last x.tip x.above) (last y.tip y.above)
every_last R x y e = each_last R x.tip y.tip x.above y.above e.0 e.1

-- and at every index
pub each_at : (R : Node → Node → Type 0) (ns ms : List Node) → Each R ns ms → (i : ℕ) → i < length ns → R (get_or ns i nowhere) (get_or ms i nowhere)
each_at R ns ms e i h = AllZip-get_or R ns ms i nowhere nowhere e h

pub length_climb : (f : Part → Node → Node) (n : Node) (gs : List Part) → length (climb f n gs) ≡ length gs
length_climb f n [] = refl
length_climb f n (g ∷ gs) = ap suc (length_climb f (f g n) gs)
