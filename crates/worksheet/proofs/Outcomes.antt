-- A result that is Ok.
use Rattle.std.proofs.Common.{◌≡◌, true, is_ok, Ok, Err, Result, MatchResult}

pub ok_cases : {X Y : Type 0} (r : Result X Y) (P : Type 0) (Q : Y → Type 0) → is_ok r ≡ true → P → MatchResult r (λ _. P) Q
ok_cases (Ok x) P Q e p = p
ok_cases (Err y) P Q e p = cc
