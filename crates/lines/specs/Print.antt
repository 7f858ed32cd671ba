-- An answer as a line: the letter of the line that it answers, a space, what is answered, a line feed.
use Rattle.std.specs.Prelude.{ℕ, Bool, true, false, List, ◌∷◌, ◌++◌, Some, None, codes, decimal, Option}
use Rattle.terms.specs.Refusals.{number_of, place_of}
use Rattle.calls.specs.declared.Answer.{Answer}
use Rattle.calls.specs.declared.Answer.TheVariants.{Done, Refused, Judged}
use Rattle.lines.specs.declared.letter.Letter.{Letter}
use Rattle.lines.specs.Letters.{code}

-- bytes: letter, two numbers of at most 20 digits, a verdict of at most 3, three spaces and the line feed
abbrev pub longest_answer : ℕ
longest_answer = 48

-- ? where the line begins with no letter
abbrev pub letter_byte : Option Letter → ℕ
letter_byte (Some letter) = code letter
letter_byte None = 63

abbrev pub verdict : Bool → List ℕ
verdict true = codes "yes"
verdict false = codes "no"

-- a refusal by its number and its place; a judgement by resistance and capacity in µN, and whether the load is carried
abbrev pub answer_words : Answer → List ℕ
answer_words Done = codes "ok"
answer_words (Refused r) = codes "E " ++ decimal (number_of r) ++ codes " " ++ decimal (place_of r)
answer_words (Judged j) =
    decimal j.resistance ++ codes " " ++ decimal j.capacity ++ codes " " ++ verdict j.carries

abbrev pub answer_text : Option Letter → Answer → List ℕ
answer_text letter answer = (letter_byte letter ∷ codes " ") ++ answer_words answer ++ codes "\n"
