-- How far a march has still to go at a node: lengths in mm, forces in µN, displacements in nm.
use Rattle.std.specs.Prelude.{ℕ, ◌+◌, ◌*◌, ◌≤◌}
use Rattle.terms.specs.Limits.{length_limits}
use Rattle.column.specs.declared.PileBody.{PileBody}
use Rattle.column.specs.declared.Node.{Node}
use Rattle.column.specs.Tips.{tip_range}
use Rattle.shaft.specs.Room.{Body, most_strain}

-- with `height` of the shaft above the node n, which can carry `resistance`, the force stays below what strains the pile by `most_strain`,
-- and the displacement below the tip's range and that strain over the longest pile
pub record Ahead (body : PileBody) (n : Node) (height resistance : ℕ) : Type 0 where
  pub bodied : Body body
  pub force : n.force + resistance ≤ most_strain * body.stiffness
  pub displacement : n.displacement + most_strain * height ≤ tip_range body + most_strain * length_limits.most
