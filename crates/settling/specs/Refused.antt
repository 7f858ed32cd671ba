-- Why a settling is refused.
use Rattle.std.specs.Prelude.{ℕ, List, Option}
use Rattle.terms.specs.declared.refusal.Refusal.{Refusal}
use Rattle.terms.specs.declared.refusal.Refusal.TheVariants.{LoadNotCarried}
use Rattle.terms.specs.Chains.{when, or_else}
use Rattle.transfer.specs.Curve.{Curve}
use Rattle.ground.specs.declared.layer.Layer.{Layer}
use Rattle.pile.specs.declared.numbers.PileNumbers.{PileNumbers}
use Rattle.column.specs.Tips.{no_march_above}
use Rattle.resistance.specs.Judging.{site_refusal, micronewtons}
use Rattle.shaft.specs.Attached.{strain_refusal}
use Rattle.settling.specs.Piles.{shaft_frictions, pile_case, range_on}

-- in this order: the ground ends above what the tip needs, the rule refuses a layer, the resistance overstrains the pile, no lower march
-- in 0 to T ends above the load
abbrev pub settling_refusal : (ℕ → ℕ → ℕ → Option ℕ) → Curve → Curve → ℕ → List Layer → PileNumbers → Option Refusal
settling_refusal answer shaft tip load ls n =
    or_else (site_refusal answer ls n)
    (or_else (strain_refusal ls n (shaft_frictions answer ls n))
    (when (no_march_above (pile_case answer shaft tip ls n) (range_on ls n) (micronewtons load)) LoadNotCarried))
