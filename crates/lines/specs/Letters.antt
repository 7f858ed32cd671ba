-- The letter of each command: the first byte of its line. It has a number of fields.
use Rattle.std.specs.Prelude.{◌≡◌, ℕ, ◌<◌, List, length, slice_index, Result, MatchResult}
use Rattle.lines.specs.declared.letter.Letter.{Letter}
use Rattle.lines.specs.declared.letter.Letter.TheVariants.{Lay, Amend, Lift, Drive, Judge}
use Rattle.lines.specs.declared.letter.UnknownByte.{UnknownByte}

-- L, A, U, P, J in ASCII
abbrev pub code : Letter → ℕ
code Lay = 76
code Amend = 65
code Lift = 85
code Drive = 80
code Judge = 74

-- how many fields follow the letter
abbrev pub arity : Letter → ℕ
arity Lay = 5
arity Amend = 3
arity Lift = 0
arity Drive = 10
arity Judge = 3

abbrev pub Begins : List ℕ → Letter → Type 0
Begins line letter = (0 < length line) × (slice_index line 0 ≡ code letter)

-- the letter of that byte, or the byte where no letter has it
abbrev pub IsLetter : ℕ → Result Letter UnknownByte → Type 0
IsLetter byte r = MatchResult r (λ letter. code letter ≡ byte) (λ e. (e.0 ≡ byte) × ((letter : Letter) → code letter ≡ byte → ⊥))
