-- The fields of a line: each is one space and then 1 to 10 digits, and is counted from 1.
use Rattle.std.specs.Prelude.{◌≡◌, ℕ, zero, suc, ◌+◌, ◌<◌, ◌≤◌, ◌⊎◌, List, [], ◌∷◌, length, ◌≢◌, take, drop, slice_index, slice_index_or}
use Rattle.std.specs.Str.Parse.{digits_value}
use Rattle.terms.specs.declared.refusal.Refusal.{Refusal}
use Rattle.terms.specs.declared.refusal.Refusal.TheVariants.{MalformedField}

abbrev pub most_digits : ℕ
most_digits = 10

-- text is 1 to 10 digits
pub record Numeral (text : List ℕ) : Type 0 where
  pub some : 1 ≤ length text
  pub few : length text ≤ most_digits
  pub digits : (k : ℕ) → k < length text → (48 ≤ slice_index text k) × (slice_index text k ≤ 57)

-- so many bytes stand before the first space, or are the whole text where it has none
pub record UpToSpace (text : List ℕ) (width : ℕ) : Type 0 where
  pub inside : width ≤ length text
  pub none : (k : ℕ) → k < width → slice_index text k ≢ 32
  pub ends : width < length text → slice_index text width ≡ 32

-- the bytes before the first space are not 1 to 10 digits
abbrev pub NoNumber : List ℕ → Type 0
NoNumber text = (width : ℕ) → UpToSpace text width → Numeral (take width text) → ⊥

-- text begins with a space and then so many digits, after which it ends or has a space
pub record Shape (text : List ℕ) (width : ℕ) : Type 0 where
  pub space : slice_index_or text 0 0 ≡ 32
  pub some : 1 ≤ width
  pub few : width ≤ most_digits
  pub inside : width + 1 ≤ length text
  pub digits : (k : ℕ) → k < width → (48 ≤ slice_index text (k + 1)) × (slice_index text (k + 1) ≤ 57)
  pub ends : width + 1 < length text → slice_index text (width + 1) ≡ 32

-- text begins with a field of that number, and after is what follows
pub record Field (text : List ℕ) (number : ℕ) (after : List ℕ) : Type 0 where
  pub width : ℕ
  pub shape : Shape text width
  pub worth : number ≡ digits_value 10 (take width (drop 1 text))
  pub follows : after ≡ drop (width + 1) text

-- text begins with no field
abbrev pub NoField : List ℕ → Type 0
NoField text = (width : ℕ) → Shape text width → ⊥

-- text is the fields of these numbers and no more
abbrev pub Fields : List ℕ → List ℕ → Type 0
Fields text [] = length text ≡ 0
Fields text (number ∷ numbers) = (after : List ℕ) × Field text number after × Fields after numbers

-- text is that many fields, of these numbers
pub record Reads (text : List ℕ) (count : ℕ) (numbers : List ℕ) : Type 0 where
  pub many : length numbers ≡ count
  pub fields : Fields text numbers

-- text is not that many fields, the first of them field k of its line: the refusal names the first that is missing, malformed or surplus
abbrev pub Malformed : List ℕ → ℕ → ℕ → Refusal → Type 0
Malformed text zero k e = (0 < length text) × (e ≡ MalformedField k)
Malformed text (suc count) k e =
    (NoField text × (e ≡ MalformedField k))
    ⊎ ((number : ℕ) × (after : List ℕ) × Field text number after × Malformed after count (k + 1) e)
