use Rattle.std.proofs.Common.{◌≡◌, ◌-◌, ◌≤◌}
use Rattle.friction.specs.Series.{horner}
use Rattle.friction.proofs.pressuremeter.scaled_sum.Given as goal

abbrev pub invariant-loop-k : goal.invariant-loop-k
invariant-loop-k l = (l.k ≤ 60) × (l.h ≡ horner 1000000000 l.x 10000 l.k (60 - l.k))
