-- Exact fractions, and whole numbers that are near one.
use Rattle.std.specs.Prelude.{ℕ, ◌+◌, ◌-◌, ◌*◌, ◌/◌, ◌<◌, ◌≤◌, cond, nat_le}

-- num / den; it is a number only where den is above 0
pub record Fraction : Type 0 where
  pub num : ℕ
  pub den : ℕ

infix 5 ◌over◌
abbrev pub ◌over◌ : ℕ → ℕ → Fraction
n over d = record { num = n; den = d }

abbrev pub whole : ℕ → Fraction
whole n = n over 1

-- sum and product
infixl 6 ◌⊕◌
abbrev pub ◌⊕◌ : Fraction → Fraction → Fraction
x ⊕ y = (x.num * y.den + y.num * x.den) over (x.den * y.den)

infixl 7 ◌⊗◌
abbrev pub ◌⊗◌ : Fraction → Fraction → Fraction
x ⊗ y = (x.num * y.num) over (x.den * y.den)

-- 1 − 1/w, for a w of at least 1
abbrev pub one_less_inverse : Fraction → Fraction
one_less_inverse w = (w.num - w.den) over w.num

-- the lesser of a fraction and a whole number
abbrev pub at_most : ℕ → Fraction → Fraction
at_most c f = cond (nat_le (c * f.den) f.num) (whole c) f

-- rounded down
abbrev pub floor : Fraction → ℕ
floor f = f.num / f.den

-- the whole number n is at most t from the fraction f: |n − f| ≤ t, multiplied by the denominator
pub record Near (t n : ℕ) (f : Fraction) : Type 0 where
  pub proper : 0 < f.den
  pub not_above : n * f.den ≤ f.num + t * f.den
  pub not_below : f.num ≤ n * f.den + t * f.den
