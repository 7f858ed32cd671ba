-- Number, part and place of each reason for which a call stops.
use Rattle.std.specs.Prelude.{ℕ}
use Rattle.terms.specs.declared.refusal.Refusal.{Refusal}
use Rattle.terms.specs.declared.refusal.Refusal.TheVariants.{UnknownLetter, LongLine, MalformedField, NoLayerToAmend, NoLayerToLift, LayerNumber, SurplusLayer, DeepGround, PileNumber, OddDiameter, VibrodrivenCategory, QuestionNumber, NoPile, ShallowGround, NoFriction, OverstrainedPile, LoadNotCarried, ShaftLength, TipLength}
use Rattle.terms.specs.declared.refusal.Part.{Part}
use Rattle.terms.specs.declared.refusal.Part.TheVariants.{Text, Ground, Pile, Answer, Law}

pub record Row : Type 0 where
  pub number : ℕ
  pub part : Part
  pub place : ℕ

abbrev row : ℕ → Part → ℕ → Row
row n p x = record { number = n; part = p; place = x }

-- the table, a line for each reason; a field counts as on the sheet, where the letter is 0
abbrev pub row_of : Refusal → Row
row_of UnknownLetter = row 1 Text 0
row_of LongLine = row 2 Text 0
row_of (MalformedField field) = row 2 Text field
row_of NoLayerToAmend = row 23 Ground 1
row_of NoLayerToLift = row 23 Ground 0
row_of (LayerNumber field) = row 21 Ground field
row_of (SurplusLayer index) = row 22 Ground index
row_of (DeepGround index) = row 22 Ground index
row_of (PileNumber field) = row 31 Pile field
row_of OddDiameter = row 31 Pile 3
row_of VibrodrivenCategory = row 32 Pile 2
row_of (QuestionNumber field) = row 46 Answer field
row_of NoPile = row 41 Answer 0
row_of (ShallowGround depth) = row 42 Answer depth
row_of (NoFriction index) = row 44 Answer index
row_of OverstrainedPile = row 45 Answer 0
row_of LoadNotCarried = row 43 Answer 0
row_of ShaftLength = row 52 Law 1
row_of TipLength = row 52 Law 2

abbrev pub number_of : Refusal → ℕ
number_of r = (row_of r).number

abbrev pub part_of : Refusal → Part
part_of r = (row_of r).part

abbrev pub place_of : Refusal → ℕ
place_of r = (row_of r).place
