-- A text cut into lines: a line feed (10) ends a line, and a last line without one counts unless it is empty.
use Rattle.std.specs.Prelude.{◌≡◌, ℕ, ◌<◌, ◌⊎◌, List, [], ◌∷◌, ◌++◌, length, ◌≢◌, slice_index}

-- line is the front of text before its first line feed, or all of it where it has none; rest is what follows the line feed
pub record Line (text line rest : List ℕ) : Type 0 where
  pub solid : (k : ℕ) → k < length line → slice_index line k ≢ 10
  pub cut : (text ≡ line ++ (10 ∷ rest)) ⊎ ((text ≡ line) × (rest ≡ []))
  pub some : 0 < length text

-- the lines of a text, one after the other
abbrev pub Cut : List ℕ → List (List ℕ) → Type 0
Cut text [] = length text ≡ 0
Cut text (line ∷ lines) = (rest : List ℕ) × Line text line rest × Cut rest lines
