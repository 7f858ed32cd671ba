-- What a judging asks and answers: design capacity (µN) by two rounded divisions, and the verdict.
use Rattle.std.specs.Prelude.{◌≡◌, ℕ, ◌*◌, ◌/◌, Bool, List, Option, nat_le}
use Rattle.terms.specs.declared.refusal.Refusal.{Refusal}
use Rattle.terms.specs.declared.refusal.Refusal.TheVariants.{QuestionNumber}
use Rattle.terms.specs.Limits.{outside, load_limits, factor_limits}
use Rattle.terms.specs.Chains.{when, or_else}
use Rattle.terms.specs.Fractions.{Fraction, Near}
use Rattle.ground.specs.declared.layer.Layer.{Layer}
use Rattle.pile.specs.declared.numbers.PileNumbers.{PileNumbers}
use Rattle.pile.specs.Tip.{shallow_refusal}
use Rattle.pile.specs.Shaft.{parts_above}
use Rattle.calls.specs.declared.Question.{Question}
use Rattle.calls.specs.declared.Judgement.{Judgement}
use Rattle.resistance.specs.Fetched.{unsaid_from}
use Rattle.resistance.specs.Resistance.{resistance_by, exact_resistance, margin_of}

-- a load in kN outside its limits
abbrev pub load_flaw : ℕ → Option Refusal
load_flaw load = when (outside load_limits load) (QuestionNumber 1)

-- the first number of a question outside its limits: load, model factor, resistance factor
abbrev pub question_flaw : Question → Option Refusal
question_flaw q =
    or_else (load_flaw q.load)
    (or_else (when (outside factor_limits q.model_factor) (QuestionNumber 2))
    (when (outside factor_limits q.resistance_factor) (QuestionNumber 3)))

-- the ground ends above what the tip needs, or else the rule refuses a layer whose top is above the tip
abbrev pub site_refusal : {X : Type 0} → (ℕ → ℕ → ℕ → Option X) → List Layer → PileNumbers → Option Refusal
site_refusal rule ls n = or_else (shallow_refusal ls n) (unsaid_from rule n 0 (parts_above n.length ls))

-- R × 1,000/factor, rounded down
abbrev pub divided : ℕ → ℕ → ℕ
divided r factor = r * 1000 / factor

-- by the model factor first, then by the resistance factor
abbrev pub capacity_of : ℕ → Question → ℕ
capacity_of r q = divided (divided r q.model_factor) q.resistance_factor

-- a kN is 10^9 µN; the verdict is yes if the load is at most the capacity
abbrev pub carries_load : ℕ → Question → Bool
carries_load capacity q = nat_le (q.load * 1000000000) capacity

abbrev pub judgement_of : ℕ → Question → Judgement
judgement_of r q = record { resistance = r; capacity = capacity_of r q; carries = carries_load (capacity_of r q) q }

-- the judgement is the one of R, and R is within its margin of its exact fraction
pub record JudgedRightly (tolerance : ℕ) (fraction : ℕ → ℕ → ℕ → Option Fraction) (answer : ℕ → ℕ → ℕ → Option ℕ) (ls : List Layer) (n : PileNumbers) (q : Question) (j : Judgement) : Type 0 where
  pub same : j ≡ judgement_of (resistance_by answer ls n) q
  pub near : Near (margin_of tolerance n) j.resistance (exact_resistance fraction ls n)

-- a load in kN, in µN
abbrev pub micronewtons : ℕ → ℕ
micronewtons load = load * 1000000000
