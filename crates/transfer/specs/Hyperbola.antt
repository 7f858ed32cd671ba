-- The hyperbolic transfer curve of length M: q·s / (M + s), rounded down, which is half of q at s = M. q Pa, s and M nm.
use Rattle.std.specs.Prelude.{ℕ, ◌+◌, ◌*◌, Option}
use Rattle.terms.specs.declared.refusal.Refusal.{Refusal}
use Rattle.terms.specs.declared.refusal.Refusal.TheVariants.{ShaftLength, TipLength}
use Rattle.terms.specs.Limits.{outside, hyperbola_limits}
use Rattle.terms.specs.Chains.{when, or_else}
use Rattle.terms.specs.Fractions.{◌over◌, floor}
use Rattle.transfer.specs.declared.Place.{Place}
use Rattle.transfer.specs.declared.Place.TheVariants.{Shaft, Tip}
use Rattle.transfer.specs.Curve.{Curve}

abbrev pub hyperbola : ℕ → Curve
hyperbola M soil modulus q width s = floor ((q * s) over (M + s))

-- of two lengths, for the shaft and for the tip, that of a place
abbrev pub length_at : Place → ℕ → ℕ → ℕ
length_at Shaft shaft tip = shaft
length_at Tip shaft tip = tip

-- why two lengths, for the shaft and for the tip, make no law
abbrev pub lengths_refusal : ℕ → ℕ → Option Refusal
lengths_refusal shaft tip =
    or_else (when (outside hyperbola_limits shaft) ShaftLength) (when (outside hyperbola_limits tip) TipLength)
