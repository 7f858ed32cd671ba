use Rattle.std.proofs.Common.{drop}
use Rattle.shaft.specs.Views.{body_of, step_of}
use Rattle.march.specs.Curves.{bare}
use Rattle.march.proofs.Going.{Going}
use Rattle.march.proofs.Bedded.march.Given as goal

abbrev pub invariant-loop-part : goal.invariant-loop-part
invariant-loop-part g l =
    let climb = l.climb in
    let bedded = climb.bedded.now in
    Going (bare (g.L.TransferLaw.curve bedded.law.now) (body_of bedded.shaft.now)) climb.side (step_of bedded.shaft.now) l.start l.part-items (drop l.part-index l.part-items) l.node
