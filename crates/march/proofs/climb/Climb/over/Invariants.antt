use Rattle.shaft.specs.Views.{body_of, step_of}
use Rattle.march.specs.Curves.{bare}
use Rattle.march.proofs.Going.{Along}
use Rattle.march.proofs.climb.Climb.over.Given as goal

abbrev pub invariant-loop-left : goal.invariant-loop-left
invariant-loop-left g l =
    Along (bare (g.L.TransferLaw.curve l.self.bedded.now.law.now) (body_of l.self.bedded.now.shaft.now)) l.self.side (step_of l.self.bedded.now.shaft.now) l.part l.initial.node l.left l.node

abbrev pub decreases-loop-left : goal.decreases-loop-left
decreases-loop-left g l = l.left
