-- A pile in its ground as a column sees it, with the frictions of a rule and the curves of a law.
use Rattle.std.specs.Prelude.{ℕ, List, Option}
use Rattle.transfer.specs.Curve.{Curve}
use Rattle.ground.specs.declared.layer.Layer.{Layer}
use Rattle.pile.specs.declared.numbers.PileNumbers.{PileNumbers}
use Rattle.pile.specs.Shaft.{parts_above}
use Rattle.column.specs.Case.{Case}
use Rattle.column.specs.Tips.{tip_range}
use Rattle.resistance.specs.Fetched.{frictions_of}
use Rattle.shaft.specs.Attached.{body_on, case_on}

-- q of each layer that the shaft passes, the uppermost first
abbrev pub shaft_frictions : (ℕ → ℕ → ℕ → Option ℕ) → List Layer → PileNumbers → List ℕ
shaft_frictions answer ls n = frictions_of answer n (parts_above n.length ls)

-- by the rule's answers, the law's shaft curve and its tip curve
abbrev pub pile_case : (ℕ → ℕ → ℕ → Option ℕ) → Curve → Curve → List Layer → PileNumbers → Case
pile_case answer shaft tip ls n = case_on shaft tip ls n (shaft_frictions answer ls n)

-- T
abbrev pub range_on : List Layer → PileNumbers → ℕ
range_on ls n = tip_range (body_on ls n)
