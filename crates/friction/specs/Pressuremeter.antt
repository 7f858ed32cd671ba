-- The pressuremeter: α/100·(a·p + 10,000·b)·(1 − 1/W) Pa at a net limit pressure of p kPa, with W the sum of u^k/k! up to a last k and u = c·p/10,000; a, b and c go by soil, α by category and soil.
use Rattle.std.specs.Prelude.{ℕ, ◌+◌, ◌-◌, ◌*◌, ◌/◌, List, [], ◌∷◌, Some, None, Option, slice_index, slice_index_or}
use Rattle.std.specs.Option.{option_map}
use Rattle.terms.specs.Fractions.{Fraction, ◌⊗◌, ◌over◌, one_less_inverse}
use Rattle.friction.specs.Rule.{inside_limits}
use Rattle.friction.specs.Series.{sum_to, horner}

-- α in hundredths: a line for each category from 1 to 20, a place for each soil from 1 to 5; None is a dash
abbrev pub alphas : List (List (Option ℕ))
alphas =
    (Some 110 ∷ Some 100 ∷ Some 180 ∷ Some 150 ∷ Some 160 ∷ []) ∷
    (Some 125 ∷ Some 140 ∷ Some 180 ∷ Some 150 ∷ Some 160 ∷ []) ∷
    (Some 70 ∷ Some 60 ∷ Some 50 ∷ Some 90 ∷ None ∷ []) ∷
    (Some 125 ∷ Some 140 ∷ Some 170 ∷ Some 140 ∷ None ∷ []) ∷
    (Some 130 ∷ None ∷ None ∷ None ∷ None ∷ []) ∷
    (Some 150 ∷ Some 180 ∷ Some 210 ∷ Some 160 ∷ Some 160 ∷ []) ∷
    (Some 190 ∷ Some 210 ∷ Some 170 ∷ Some 170 ∷ None ∷ []) ∷
    (Some 60 ∷ Some 60 ∷ Some 100 ∷ Some 70 ∷ None ∷ []) ∷
    (Some 110 ∷ Some 140 ∷ Some 100 ∷ Some 90 ∷ None ∷ []) ∷
    (Some 200 ∷ Some 210 ∷ Some 190 ∷ Some 160 ∷ None ∷ []) ∷
    (Some 120 ∷ Some 140 ∷ Some 210 ∷ Some 100 ∷ None ∷ []) ∷
    (Some 80 ∷ Some 120 ∷ Some 40 ∷ Some 90 ∷ None ∷ []) ∷
    (Some 120 ∷ Some 70 ∷ Some 50 ∷ Some 100 ∷ Some 100 ∷ []) ∷
    (Some 110 ∷ Some 100 ∷ Some 40 ∷ Some 100 ∷ Some 90 ∷ []) ∷
    (Some 270 ∷ Some 290 ∷ Some 240 ∷ Some 240 ∷ Some 240 ∷ []) ∷
    (Some 90 ∷ Some 80 ∷ Some 40 ∷ Some 120 ∷ Some 120 ∷ []) ∷
    (None ∷ None ∷ None ∷ None ∷ None ∷ []) ∷
    (None ∷ None ∷ None ∷ None ∷ None ∷ []) ∷
    (Some 270 ∷ Some 290 ∷ Some 240 ∷ Some 240 ∷ Some 240 ∷ []) ∷
    (Some 340 ∷ Some 380 ∷ Some 310 ∷ Some 310 ∷ Some 310 ∷ []) ∷ []

abbrev pub alpha_of : ℕ → ℕ → Option ℕ
alpha_of soil category = slice_index_or (slice_index_or alphas (category - 1) []) (soil - 1) None

-- a, b and c, by soil from 1 to 5
abbrev pub slope_of : ℕ → ℕ
slope_of soil = slice_index (3 ∷ 10 ∷ 7 ∷ 8 ∷ 10 ∷ []) (soil - 1)

abbrev pub base_of : ℕ → ℕ
base_of soil = slice_index (4 ∷ 6 ∷ 7 ∷ 8 ∷ 8 ∷ []) (soil - 1)

abbrev pub growth_of : ℕ → ℕ
growth_of soil = slice_index (35 ∷ 12 ∷ 13 ∷ 30 ∷ 30 ∷ []) (soil - 1)

-- a·p + 10,000·b
abbrev pub line_at : ℕ → ℕ → ℕ
line_at soil p = slope_of soil * p + 10000 * base_of soil

-- the friction at α, with W up to k = last
abbrev pub friction_at : (last soil p α : ℕ) → Fraction
friction_at last soil p α = (α * line_at soil p over 100) ⊗ one_less_inverse (sum_to last (growth_of soil * p over 10000))

-- at the α that the table has; none at a dash and beyond the limits
abbrev pub pressuremeter_fraction : (last soil category p : ℕ) → Option Fraction
pressuremeter_fraction last soil category p =
    inside_limits soil category p (option_map (friction_at last soil p) (alpha_of soil category))

-- the answer of this crate: W up to k = 60 by Horner's way, scaled by 10^9, and the last quotient rounded down
abbrev pub last_term : ℕ
last_term = 60

abbrev pub scale_of_sum : ℕ
scale_of_sum = 1000000000

-- C/100·(1 − 1/W), for W = h/10^9
abbrev pub rounded : (C h : ℕ) → ℕ
rounded C h = C * (h - scale_of_sum) / (100 * h)

abbrev pub answer_at : (soil p α : ℕ) → ℕ
answer_at soil p α = rounded (α * line_at soil p) (horner scale_of_sum (growth_of soil * p) 10000 0 last_term)

abbrev pub pressuremeter_answer : (soil category p : ℕ) → Option ℕ
pressuremeter_answer soil category p =
    inside_limits soil category p (option_map (answer_at soil p) (alpha_of soil category))
