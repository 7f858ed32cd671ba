-- What a shaft holds.
use Rattle.std.specs.Prelude.{ℕ, List, take}
use Rattle.transfer.specs.Curve.{Curve}
use Rattle.column.specs.declared.Part.{Part}
use Rattle.column.specs.declared.PileBody.{PileBody}
use Rattle.column.specs.Slices.{slices}
use Rattle.column.specs.Case.{Case, case_of}
use Rattle.shaft.specs.declared.held.Shaft.{Shaft}

abbrev pub body_of : Shaft → PileBody
body_of s = s.body

-- the height of a slice, mm
abbrev pub step_of : Shaft → ℕ
step_of s = s.step

-- the lowest first
abbrev pub parts_of : Shaft → List Part
parts_of s = take s.count s.parts

-- as a column sees it, under the two curves of a law
abbrev pub case_over : Curve → Curve → Shaft → Case
case_over shaft tip s = case_of shaft tip (body_of s) (slices (step_of s) (parts_of s))
