-- What a site answers under a friction rule: the refusal of a question, and the judgement.
use Rattle.std.specs.Prelude.{◌≡◌, ℕ, Some, None, Option, MatchOption}
use Rattle.terms.specs.declared.refusal.Refusal.{Refusal}
use Rattle.terms.specs.declared.refusal.Refusal.TheVariants.{NoPile}
use Rattle.terms.specs.Chains.{or_else}
use Rattle.terms.specs.Fractions.{Fraction, Near}
use Rattle.pile.specs.declared.numbers.PileNumbers.{PileNumbers}
use Rattle.calls.specs.declared.Question.{Question}
use Rattle.calls.specs.declared.Judgement.{Judgement}
use Rattle.resistance.specs.Judging.{question_flaw, site_refusal, judgement_of}
use Rattle.resistance.specs.Resistance.{resistance_by, exact_resistance, margin_of}
use Rattle.study.specs.Sites.{Site}

-- what a friction rule means: its tolerance in Pa, its exact fraction or none, and its whole answer or none, by soil, category and net limit pressure
pub record Meaning : Type 0 where
  pub tolerance : ℕ
  pub fraction : ℕ → ℕ → ℕ → Option Fraction
  pub answer : ℕ → ℕ → ℕ → Option ℕ

-- by the pile, or without one
abbrev pub by_pile : {X : Type 0} → Option PileNumbers → X → (PileNumbers → X) → X
by_pile None x f = x
by_pile (Some n) x f = f n

-- why a judging is refused: a number of the question, no pile, a ground too shallow, a layer without friction
abbrev pub judge_refusal : (ℕ → ℕ → ℕ → Option ℕ) → Site → Question → Option Refusal
judge_refusal answer s q = or_else (question_flaw q) (by_pile s.pile (Some NoPile) (site_refusal answer s.layers))

-- R on the site
abbrev pub resistance_on : (ℕ → ℕ → ℕ → Option ℕ) → Site → ℕ
resistance_on answer s = by_pile s.pile 0 (resistance_by answer s.layers)

abbrev pub judgement_on : (ℕ → ℕ → ℕ → Option ℕ) → Site → Question → Judgement
judgement_on answer s q = judgement_of (resistance_on answer s) q

-- there is a pile, and the resistance r is within its margin of the exact fraction
abbrev pub WithinMargin : Meaning → Site → ℕ → Type 0
WithinMargin m s r = MatchOption s.pile ⊥ (λ n. Near (margin_of m.tolerance n) r (exact_resistance m.fraction s.layers n))

-- a judgement that is the defined one and whose resistance is within the margin
pub record JudgedOn (m : Meaning) (s : Site) (q : Question) (j : Judgement) : Type 0 where
  pub same : j ≡ judgement_on m.answer s q
  pub near : WithinMargin m s j.resistance
