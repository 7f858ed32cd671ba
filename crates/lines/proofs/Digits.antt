-- One more digit of a number.
use Rattle.std.proofs.Common.{◌≡◌, ℕ, ◌+◌, ◌-◌, ◌*◌, ◌^◌, ◌<◌, ◌≤◌, List, length, get_or, take, pow-suc, add-one, arith, rules}
use Rattle.std.specs.Char.{digit_value}
use Rattle.std.specs.Str.Parse.{digits_value}
use Rattle.std.proofs.lemmas.Int.Digits.{digits_value_more}

digit_worth : (c : ℕ) → 48 ≤ c → c ≤ 57 → digit_value c ≡ c - 48
digit_worth c a z = search rules

-- a number of n digits and one more
pub less : (n v d : ℕ) → d < 10 → v < 10 ^ n → v * 10 + d < 10 ^ (n + 1)
less n v d h l = rw (add-one, pow-suc) (omega arith)

pub more : (s : List ℕ) (n v : ℕ) → n < length s → 48 ≤ get_or s n 0 → get_or s n 0 ≤ 57 → v ≡ digits_value 10 (take n s) → v * 10 + (get_or s n 0 - 48) ≡ digits_value 10 (take (n + 1) s)
more s n v h a z e = omega (arith, digits_value_more 10 s n h, digit_worth _ a z, e)
