use Rattle.std.proofs.Common.{◌≡◌, ◌≤◌, ◌++◌, length, drop}
use Rattle.ground.specs.Table.{strata}
use Rattle.pile.specs.Driven.{numbers_of}
use Rattle.pile.specs.FrictionList.{friction_list}
use Rattle.pile.specs.Shaft.{parts_above}
use Rattle.resistance.specs.Fetched.{unsaid_from, frictions_of}
use Rattle.resistance.proofs.fetching.fetch.Given as goal

-- what is fetched and what is to come are the whole, and no layer so far was refused
abbrev pub invariant-loop-index : goal.invariant-loop-index
invariant-loop-index g l =
    let answer = g.R.FrictionRule.answer l.rule in
    let n = numbers_of l.pile in
    let rest = parts_above l.left (drop l.index l.layer-items) in
    let whole = parts_above n.length (strata l.ground) in
    (length (friction_list l.frictions) ≤ l.index)
    × (friction_list l.frictions ++ frictions_of answer n rest ≡ frictions_of answer n whole)
    × (unsaid_from answer n l.index rest ≡ unsaid_from answer n 0 whole)
