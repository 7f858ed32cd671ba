-- The sum of u^k/k! for k from 0 to a last k, exact; and Horner's way to it, rounded.
use Rattle.std.specs.Prelude.{ℕ, zero, suc, ◌+◌, ◌*◌, ◌/◌, ◌^◌}
use Rattle.terms.specs.Fractions.{Fraction, ◌⊕◌, ◌over◌}

unfoldable pub factorial : ℕ → ℕ
factorial zero = 1
factorial (suc k) = suc k * factorial k

-- u^k/k!
abbrev pub term : Fraction → ℕ → Fraction
term u k = u.num ^ k over u.den ^ k * factorial k

-- u^0/0! + u^1/1! + .. + u^last/last!
unfoldable pub sum_to : ℕ → Fraction → Fraction
sum_to zero u = term u 0
sum_to (suc k) u = sum_to k u ⊕ term u (suc k)

-- 1 + u/(k + 1)·(1 + u/(k + 2)·(.. (1 + u/(k + steps)))), for u = x/d, times `scale`, each quotient rounded down
unfoldable pub horner : (scale x d k steps : ℕ) → ℕ
horner scale x d k zero = scale
horner scale x d k (suc steps) = scale + x * horner scale x d (suc k) steps / (d * suc k)
