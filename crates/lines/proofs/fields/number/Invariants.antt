use Rattle.std.proofs.Common.{◌≡◌, ℕ, ◌^◌, ◌<◌, ◌≤◌, get_or, take}
use Rattle.std.specs.Str.Parse.{digits_value}
use Rattle.lines.proofs.fields.number.Given as goal

-- the bytes so far are digits, and the number is theirs
abbrev pub invariant-loop-width : goal.invariant-loop-width
invariant-loop-width l = record {
  digits : (k : ℕ) → k < l.width → (48 ≤ get_or l.text k 0) × (get_or l.text k 0 ≤ 57);
  few : l.width ≤ 10;
  worth : l.number ≡ digits_value 10 (take l.width l.text);
  small : l.number < 10 ^ l.width;
}
