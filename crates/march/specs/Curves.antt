-- A law's curves over a pile: the case of a shaft, and the bare case of a body, which a march goes by slice by slice.
use Rattle.std.specs.Prelude.{[]}
use Rattle.transfer.specs.declared.Place.{Place}
use Rattle.transfer.specs.declared.Place.TheVariants as place
use Rattle.transfer.specs.Curve.{Curve}
use Rattle.column.specs.declared.PileBody.{PileBody}
use Rattle.column.specs.Case.{Case, case_of}
use Rattle.shaft.specs.declared.held.Shaft.{Shaft}
use Rattle.shaft.specs.Views.{case_over}
use Rattle.march.specs.declared.Bedded.{Bedded}

abbrev pub case_under : (Place → Curve) → Shaft → Case
case_under curve shaft = case_over (curve place.Shaft) (curve place.Tip) shaft

-- of a shaft bedded in its soil
abbrev pub case_of_bedded : {L : Type 0} → (L → Place → Curve) → Bedded L → Case
case_of_bedded curve x = case_under (curve x.law.now) x.shaft.now

abbrev pub bare : (Place → Curve) → PileBody → Case
bare curve body = case_of (curve place.Shaft) (curve place.Tip) body []
