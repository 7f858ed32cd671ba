use Rattle.std.proofs.Common.{◌≡◌, ◌≤◌, [], take, drop}
use Rattle.terms.specs.Limits.{max_depth}
use Rattle.ground.specs.Layers.{depth}
use Rattle.ground.specs.Edits.{lay_all_refusal}
use Rattle.ground.proofs.table.edits.admit_all.Given as goal

-- those passed may be laid, and what is left is refused as the whole is
abbrev pub invariant-loop-i : goal.invariant-loop-i
invariant-loop-i l = (depth (take l.i l.layers) ≤ max_depth) × (lay_all_refusal (take l.i l.layers) (drop l.i l.layers) ≡ lay_all_refusal [] l.layers)
