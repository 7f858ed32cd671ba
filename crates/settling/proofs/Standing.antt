-- What is settled on a shaft is settled on the pile in the ground that it stands for.
use Rattle.std.proofs.Common.{◌≡◌, ℕ, ◌≤◌, Bool, true, List, Some, None, Option, Result, MatchOption, refl, sym, ap, ◌∙◌, subst, arith}
use Rattle.std.specs.Option.{ok_or}
use Rattle.terms.specs.declared.refusal.Refusal.{Refusal}
use Rattle.terms.specs.declared.refusal.Refusal.TheVariants.{LoadNotCarried}
use Rattle.terms.specs.Chains.{Answers, when, or_else}
use Rattle.terms.specs.Limits.{load_limits}
use Rattle.terms.proofs.Chained.{within, when_free}
use Rattle.transfer.specs.Curve.{Curve, Transfers}
use Rattle.ground.specs.declared.layer.Layer.{Layer}
use Rattle.pile.specs.declared.numbers.PileNumbers.{PileNumbers}
use Rattle.calls.specs.declared.Settlement.{Settlement}
use Rattle.column.specs.declared.Part.{Part}
use Rattle.column.specs.declared.PileBody.{PileBody}
use Rattle.column.specs.Slices.{slices}
use Rattle.column.specs.Case.{Case, Sound, case_of}
use Rattle.column.specs.Tips.{tip_range, no_march_above}
use Rattle.column.proofs.Nowhere.{above_some}
use Rattle.resistance.specs.Judging.{load_flaw, micronewtons}
use Rattle.shaft.specs.declared.held.Shaft.{Shaft}
use Rattle.shaft.specs.Views.{body_of, step_of, parts_of, case_over}
use Rattle.shaft.specs.Standing.{StandsOn}
use Rattle.shaft.specs.Attached.{body_on, case_on, strain_refusal}
use Rattle.pile.specs.Tip.{shallow_refusal}
use Rattle.pile.specs.Shaft.{parts_above}
use Rattle.resistance.specs.Fetched.{unsaid_from}
use Rattle.settling.specs.Refused.{settling_refusal}
use Rattle.settling.specs.Piles.{shaft_frictions, pile_case, range_on}
use Rattle.settling.specs.Settles.{Settles, Encloses, SettledRightly}
use Rattle.settling.proofs.Enclosing.{encloses}

same_case : (shaft tip : Curve) (ls : List Layer) (n : PileNumbers) (qs : List ℕ) (s : Shaft) → StandsOn ls n qs s → case_over shaft tip s ≡ case_on shaft tip ls n qs
same_case shaft tip ls n qs s h =
    ap (λ (b : PileBody). case_of shaft tip b (slices (step_of s) (parts_of s))) h.body
    ∙ ap (λ (d : ℕ). case_of shaft tip (body_on ls n) (slices d (parts_of s))) h.step
    ∙ ap (λ (ps : List Part). case_of shaft tip (body_on ls n) (slices n.step ps)) h.parts

some_force : (load : ℕ) → load_flaw load ≡ None → 1 ≤ micronewtons load
some_force load e = let w = within load_limits load _ e in omega (arith, w.0)

-- what holds of layers, numbers and frictions holds of those that they are
pub told : (P : List Layer → PileNumbers → List ℕ → Type 0) (zs ls : List Layer) (r n : PileNumbers) (ys qs : List ℕ) → zs ≡ ls → r ≡ n → ys ≡ qs → P zs r ys → P ls n qs
told P zs ls r n ys qs a b e h = subst (λ (xs : List Layer). P xs n qs) a (subst (λ (m : PileNumbers). P zs m qs) b (subst (λ (xs : List ℕ). P zs r xs) e h))

-- a settling that only the reach of the marches can refuse
by_reach : (load shallow unsaid strain reach : Option Refusal) → load ≡ None → shallow ≡ None → unsaid ≡ None → strain ≡ None
    → or_else load (or_else (or_else shallow unsaid) (or_else strain reach)) ≡ reach
by_reach load shallow unsaid strain reach a b e f = rw (a, b, e, f) refl

module _ (answer : ℕ → ℕ → ℕ → Option ℕ) (shaft tip : Curve) (ts : Transfers shaft) (tr : Transfers tip) (load : ℕ) (asked : load_flaw load ≡ None) (ls : List Layer) (n : PileNumbers) (s : Shaft) (h : StandsOn ls n (shaft_frictions answer ls n) s) where
  abbrev F : ℕ
  F = micronewtons load

  range : tip_range (body_of s) ≡ range_on ls n
  range = ap tip_range h.body

  same : case_over shaft tip s ≡ pile_case answer shaft tip ls n
  same = same_case shaft tip ls n (shaft_frictions answer ls n) s h

  settled : (x : Settlement) → Settles (case_over shaft tip s) (tip_range (body_of s)) F x → SettledRightly answer shaft tip load ls n x
  settled x is =
      let ok : Sound (case_over shaft tip s) = record { shaft = ts; tip = tr; stiff = s.bodied.0 } in
      record {
        same = subst (λ (t : ℕ). Settles (pile_case answer shaft tip ls n) t F x) range (subst (λ (c : Case). Settles c (tip_range (body_of s)) F x) same is);
        encloses = subst (λ (c : Case). Encloses c F x) same (encloses (case_over shaft tip s) ok (tip_range (body_of s)) F (some_force load asked) x is);
      }

  answered_on : (o : Option Settlement) → MatchOption o (no_march_above (case_over shaft tip s) (tip_range (body_of s)) F ≡ true) (λ x. Settles (case_over shaft tip s) (tip_range (body_of s)) F x)
      → Answers (when (no_march_above (pile_case answer shaft tip ls n) (range_on ls n) F) LoadNotCarried) (SettledRightly answer shaft tip load ls n) (ok_or o LoadNotCarried)
  answered_on None none =
      ap (λ (b : Bool). when b LoadNotCarried) (sym (ap (λ (t : ℕ). no_march_above (pile_case answer shaft tip ls n) t F) range) ∙ sym (ap (λ (c : Case). no_march_above c (tip_range (body_of s)) F) same) ∙ none)
  answered_on (Some x) is =
      let right = settled x is in
      let up = right.same.upper_tip in
      (when_free _ _ (above_some (pile_case answer shaft tip ls n) (range_on ls n) F x.tip.upper up.within up.above), right)

  -- where nothing before refuses
  pub answered : (o : Option Settlement) (r : Result Settlement Refusal) → shallow_refusal ls n ≡ None → unsaid_from answer n 0 (parts_above n.length ls) ≡ None → strain_refusal ls n (shaft_frictions answer ls n) ≡ None
      → MatchOption o (no_march_above (case_over shaft tip s) (tip_range (body_of s)) F ≡ true) (λ x. Settles (case_over shaft tip s) (tip_range (body_of s)) F x) → r ≡ ok_or o LoadNotCarried
      → Answers (or_else (load_flaw load) (settling_refusal answer shaft tip load ls n)) (SettledRightly answer shaft tip load ls n) r
  answered o r a b e is made =
      let Right = SettledRightly answer shaft tip load ls n in
      let reach = when (no_march_above (pile_case answer shaft tip ls n) (range_on ls n) F) LoadNotCarried in
      subst (λ (x : Result Settlement Refusal). Answers (or_else (load_flaw load) (settling_refusal answer shaft tip load ls n)) Right x) (sym made)
      (subst (λ (x : Option Refusal). Answers x Right (ok_or o LoadNotCarried)) (sym (by_reach (load_flaw load) (shallow_refusal ls n) (unsaid_from answer n 0 (parts_above n.length ls)) (strain_refusal ls n (shaft_frictions answer ls n)) reach asked a b e)) (answered_on o is))
