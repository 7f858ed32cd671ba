-- Tip resistance (Pa) from the net limit pressure averaged around the tip.
use Rattle.std.specs.Prelude.{ℕ, ◌+◌, ◌-◌, ◌*◌, ◌/◌, min, max, List, Option, nat_lt}
use Rattle.terms.specs.declared.refusal.Refusal.{Refusal}
use Rattle.terms.specs.declared.refusal.Refusal.TheVariants.{ShallowGround}
use Rattle.terms.specs.Chains.{when}
use Rattle.terms.specs.Fractions.{Fraction, ◌over◌, floor}
use Rattle.ground.specs.declared.layer.Layer.{Layer}
use Rattle.ground.specs.Layers.{depth}
use Rattle.pile.specs.declared.numbers.PileNumbers.{PileNumbers}
use Rattle.pile.specs.Pressure.{integral}
use Rattle.pile.specs.Bearing.{bearing_index, top_of}

-- g: the larger of half the diameter and 500 mm
abbrev pub half_height : PileNumbers → ℕ
half_height n = max (n.diameter / 2) 500

-- the averaging ends 3g below the tip, and the ground has to reach so far
abbrev pub needed_depth : PileNumbers → ℕ
needed_depth n = n.length + 3 * half_height n

abbrev pub shallow_refusal : List Layer → PileNumbers → Option Refusal
shallow_refusal ls n = when (nat_lt (depth ls) (needed_depth n)) (ShallowGround (needed_depth n))

-- h: how far the tip is below the top of the layer that bears it
abbrev pub embedment : List Layer → ℕ → ℕ
embedment ls d = d - top_of ls (bearing_index ls d)

-- b: the averaging begins so far above the tip, and never above the bearing layer
abbrev pub height_above : List Layer → PileNumbers → ℕ
height_above ls n = min (half_height n) (embedment ls n.length)

-- kp·I/L, with kp in hundredths and I in kPa·mm, so that 10 makes it Pa
abbrev pub tip_fraction : List Layer → PileNumbers → Fraction
tip_fraction ls n =
    (10 * n.tip_factor * integral ls (n.length - height_above ls n) (needed_depth n)) over (height_above ls n + 3 * half_height n)

-- qb
abbrev pub tip_resistance : List Layer → PileNumbers → ℕ
tip_resistance ls n = floor (tip_fraction ls n)
