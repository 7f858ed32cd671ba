-- The transfer curve of Frank and Zhao: with x = m·EM·s / (10,000·B) it is the least of x, (2q + x)/5 and q, rounded down.
-- Units: EM kPa, s nm, B mm, q and x Pa; m counts tenths of EM/B, so 10,000 is 10 tenths × 10^6 nm/mm / 10^3 Pa/kPa.
use Rattle.std.specs.Prelude.{ℕ, ◌*◌, min, Bool, cond, ◌==◌}
use Rattle.terms.specs.Fractions.{Fraction, ◌over◌, whole, ◌⊕◌, ◌⊗◌, floor}
use Rattle.transfer.specs.declared.Place.{Place}
use Rattle.transfer.specs.declared.Place.TheVariants.{Shaft, Tip}
use Rattle.transfer.specs.Curve.{Curve}

-- sand or gravel; every other soil follows soil 1
abbrev pub granular : ℕ → Bool
granular soil = soil == 2

-- m on the shaft, and at the tip
abbrev pub shaft_slope : ℕ → ℕ
shaft_slope soil = cond (granular soil) 8 20

abbrev pub tip_slope : ℕ → ℕ
tip_slope soil = cond (granular soil) 48 110

abbrev pub slope : Place → ℕ → ℕ
slope Shaft = shaft_slope
slope Tip = tip_slope

-- x; a diameter of 0, which no pile has, makes it 0
abbrev pub first_branch : ℕ → ℕ → ℕ → ℕ → Fraction
first_branch m modulus width s = (m * modulus * s) over (10000 * width)

-- (2q + x)/5
abbrev pub second_branch : ℕ → Fraction → Fraction
second_branch q x = (whole (2 * q) ⊕ x) ⊗ (1 over 5)

-- the least of three numbers, rounded down, is the least of the three rounded down
abbrev pub frank_zhao : ℕ → ℕ → ℕ → ℕ → ℕ → ℕ
frank_zhao m modulus q width s =
    let x = first_branch m modulus width s in
    min (floor x) (min (floor (second_branch q x)) q)

abbrev pub frank_zhao_shaft : Curve
frank_zhao_shaft soil modulus q width s = frank_zhao (shaft_slope soil) modulus q width s

abbrev pub frank_zhao_tip : Curve
frank_zhao_tip soil modulus q width s = frank_zhao (tip_slope soil) modulus q width s

abbrev pub frank_zhao_at : Place → Curve
frank_zhao_at Shaft = frank_zhao_shaft
frank_zhao_at Tip = frank_zhao_tip
