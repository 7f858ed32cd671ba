-- What a line says: the letter of a call, and then the numbers of the call in their order.
use Rattle.std.specs.Prelude.{◌≡◌, ℕ, ◌<◌, ◌≤◌, ◌⊎◌, List, [], ◌∷◌, length, drop}
use Rattle.terms.specs.declared.refusal.Refusal.{Refusal}
use Rattle.terms.specs.declared.refusal.Refusal.TheVariants.{UnknownLetter, LongLine}
use Rattle.calls.specs.declared.Call.{Call}
use Rattle.calls.specs.declared.Call.TheVariants.{Lay, Amend, Lift, Drive, Judge}
use Rattle.lines.specs.declared.letter.Letter.{Letter}
use Rattle.lines.specs.declared.letter.Letter.TheVariants.{Lay as letter_l, Amend as letter_a, Lift as letter_u, Drive as letter_p, Judge as letter_j}
use Rattle.lines.specs.Letters.{arity, Begins}
use Rattle.lines.specs.Fields.{Fields, Malformed}

-- bytes, without the line feed
abbrev pub longest_line : ℕ
longest_line = 120

abbrev pub letter_of : Call → Letter
letter_of (Lay layer) = letter_l
letter_of (Amend amendment) = letter_a
letter_of Lift = letter_u
letter_of (Drive pile) = letter_p
letter_of (Judge question) = letter_j

abbrev pub numbers_of : Call → List ℕ
numbers_of (Lay l) = l.soil ∷ l.thickness ∷ l.pressure ∷ l.modulus ∷ l.ceiling ∷ []
numbers_of (Amend a) = a.index ∷ a.pressure ∷ a.modulus ∷ []
numbers_of Lift = []
numbers_of (Drive p) =
    p.category ∷ p.mark ∷ p.diameter ∷ p.perimeter ∷ p.tip_area ∷ p.section ∷ p.modulus ∷ p.length ∷ p.tip_factor ∷ p.step ∷ []
numbers_of (Judge q) = q.load ∷ q.model_factor ∷ q.resistance_factor ∷ []

-- the line is that call
pub record Says (line : List ℕ) (call : Call) : Type 0 where
  pub begins : Begins line (letter_of call)
  pub short : length line ≤ longest_line
  pub holds : Fields (drop 1 line) (numbers_of call)

-- the line is no call, and e is the reason: first the letter, then the length, then the fields from the first on
abbrev pub Misread : List ℕ → Refusal → Type 0
Misread line e =
    (((letter : Letter) → Begins line letter → ⊥) × (e ≡ UnknownLetter))
    ⊎ ((letter : Letter) × Begins line letter × (((longest_line < length line) × (e ≡ LongLine))
    ⊎ ((length line ≤ longest_line) × Malformed (drop 1 line) (arity letter) 1 e)))
