-- A sheet may be worked in pieces: whole lines first and what follows later make the same as the text at once.
use Rattle.std.specs.Prelude.{◌≡◌, ℕ, ◌⊎◌, List, [], ◌∷◌, ◌++◌}
use Rattle.study.specs.declared.holder.Study.{Study}
use Rattle.study.specs.Rules.{Meaning}
use Rattle.worksheet.specs.Sheets.{Sheet}

-- whole lines: the text is empty, or it ends with a line feed
abbrev pub WholeLines : List ℕ → Type 0
WholeLines text = (text ≡ []) ⊎ ((front : List ℕ) × (text ≡ front ++ (10 ∷ [])))

abbrev pub PiecesJoin : {R L : Type 0} → (Study R L → Meaning) → Type 0
PiecesJoin {R} {L} meaning =
    (s u t : Study R L) (first later old mid new : List ℕ) → WholeLines first → Sheet meaning s u first old mid → Sheet meaning u t later mid new
    → Sheet meaning s t (first ++ later) old new
