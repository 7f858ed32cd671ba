use Rattle.std.proofs.Common.{◌≡◌, map, take, drop}
use Rattle.study.specs.Sites.{plain}
use Rattle.study.specs.Views.{site_of, meaning, Kept}
use Rattle.story.specs.Story.{Told}
use Rattle.story.proofs.tell.Given as goal

-- the first i calls are told
abbrev pub invariant-loop-i : goal.invariant-loop-i
invariant-loop-i g l =
    let m = meaning g.R.FrictionRule l.initial.study in
    Kept l.initial.study l.study
    × (drop l.i l.answers ≡ drop l.i l.initial.answers)
    × Told m (site_of l.initial.study) (map plain (take l.i l.calls)) (take l.i l.answers) (site_of l.study)
