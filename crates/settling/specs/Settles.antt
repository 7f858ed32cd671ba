-- What a settling answers: the brackets of tip and head (nm), and what they say of every balanced column that carries the load F (µN).
use Rattle.std.specs.Prelude.{◌≡◌, ℕ, ◌*◌, ◌≤◌, List, Option}
use Rattle.transfer.specs.Curve.{Curve}
use Rattle.ground.specs.declared.layer.Layer.{Layer}
use Rattle.pile.specs.declared.numbers.PileNumbers.{PileNumbers}
use Rattle.calls.specs.declared.Bracket.{Bracket}
use Rattle.calls.specs.declared.Settlement.{Settlement}
use Rattle.column.specs.declared.Node.{Node}
use Rattle.column.specs.Case.{Case}
use Rattle.column.specs.Nodes.{Nodes, head_node}
use Rattle.column.specs.Balanced.{Balanced, Carries}
use Rattle.column.specs.Marches.{lower_march, upper_march}
use Rattle.column.specs.Tips.{IsLowerTip, IsUpperTip}
use Rattle.column.specs.Bracket.{Bracketed}
use Rattle.resistance.specs.Judging.{micronewtons}
use Rattle.settling.specs.Piles.{pile_case, range_on}

-- the definition: the tip's bracket runs from the lower tip displacement to the upper one, the head's from the end of the lower march
-- from the one to the end of the upper march from the other
pub record Settles (c : Case) (T F : ℕ) (x : Settlement) : Type 0 where
  pub lower_tip : IsLowerTip c T F x.tip.lower
  pub upper_tip : IsUpperTip c T F x.tip.upper
  pub lower_head : x.head.lower ≡ (head_node (lower_march c x.tip.lower)).displacement
  pub upper_head : x.head.upper ≡ (head_node (upper_march c x.tip.upper)).displacement

-- the node n of a column of scale k has moved by no less and no more than the bracket says
pub record MovedWithin (k : ℕ) (b : Bracket) (n : Node) : Type 0 where
  pub least : k * b.lower ≤ n.displacement
  pub most : n.displacement ≤ k * b.upper

-- what the structural engineer relies on
pub record Encloses (c : Case) (F : ℕ) (x : Settlement) : Type 0 where
  -- tip and head of every balanced column that carries the load are inside the brackets answered
  pub tip_inside : (k : ℕ) (y : Nodes) → Balanced c k y → Carries F k y → MovedWithin k x.tip y.tip
  pub head_inside : (k : ℕ) (y : Nodes) → Balanced c k y → Carries F k y → MovedWithin k x.head (head_node y)
  -- every node is inside; at the lower tip displacement some balanced column carries less, at the upper one some carries more, and some carries exactly the load
  pub bracketed : Bracketed c F x.tip.lower x.tip.upper

pub record SettledRightly (answer : ℕ → ℕ → ℕ → Option ℕ) (shaft tip : Curve) (load : ℕ) (ls : List Layer) (n : PileNumbers) (x : Settlement) : Type 0 where
  pub same : Settles (pile_case answer shaft tip ls n) (range_on ls n) (micronewtons load) x
  pub encloses : Encloses (pile_case answer shaft tip ls n) (micronewtons load) x
