use Rattle.std.proofs.Common.{◌≡◌, ℕ, ◌*◌, ◌≤◌, Some, sym, arith}
use Rattle.terms.specs.Soils.{number_of_soil}
use Rattle.friction.specs.Tables.{alpha_small, amount_small}
use Rattle.friction.specs.Pressuremeter.{alpha_of, line_at}
use Rattle.friction.proofs.pressuremeter.PressuremeterFrictionRule.ask.Goals as goal

-- what rounding takes: α times the line, at most 380·180,000
amount : (soil category p a l : ℕ) → p ≤ 10000 → alpha_of soil category ≡ Some a → l ≡ line_at soil p → a * l ≤ 68400000
amount soil category p a l small e same = rw same (amount_small soil p a small (alpha_small soil category a e))

pub overflow_mul-alpha : goal.overflow_mul-alpha
overflow_mul-alpha c =
    let asked = c.in_ok-asked.asked in
    omega (arith, amount (number_of_soil asked.soil) asked.category asked.pressure c.in_ok-alpha.alpha c.line.result asked.pressure_within.1 (sym c.in_ok-alpha.ensures) c.line.ensures.0)

pub rounded_down-requires : goal.rounded_down-requires
rounded_down-requires c =
    let asked = c.in_ok-asked.asked in (
      amount (number_of_soil asked.soil) asked.category asked.pressure c.in_ok-alpha.alpha c.line.result asked.pressure_within.1 (sym c.in_ok-alpha.ensures) c.line.ensures.0,
      c.scaled_sum-sum.ensures.2,
      c.scaled_sum-sum.ensures.1,
    )
