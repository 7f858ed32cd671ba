-- A transfer curve: soil, Ménard modulus kPa, unit resistance Pa, pile diameter mm and displacement nm give the resistance mobilised, Pa.
use Rattle.std.specs.Prelude.{◌≡◌, ℕ, ◌≤◌}

abbrev pub Curve : Type 0
Curve = ℕ → ℕ → ℕ → ℕ → ℕ → ℕ

-- nothing is mobilised at rest
abbrev pub Rest : Curve → Type 0
Rest curve = (soil modulus resistance width : ℕ) → curve soil modulus resistance width 0 ≡ 0

-- it never falls as the displacement grows
abbrev pub Rising : Curve → Type 0
Rising curve =
    (soil modulus resistance width s t : ℕ) → s ≤ t → curve soil modulus resistance width s ≤ curve soil modulus resistance width t

-- it never exceeds the unit resistance
abbrev pub Capped : Curve → Type 0
Capped curve = (soil modulus resistance width s : ℕ) → curve soil modulus resistance width s ≤ resistance

-- what every curve of a transfer law keeps
pub record Transfers (curve : Curve) : Type 0 where
  pub rest : Rest curve
  pub rising : Rising curve
  pub capped : Capped curve
