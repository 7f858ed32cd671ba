-- A call without a refusal is allowed and answered right, and one with a refusal is not allowed: for every rule whose answers agree with its fractions.
use Rattle.std.proofs.Common.{◌≡◌, ℕ, ◌+◌, ◌%◌, Bool, true, false, not, ◌&&◌, eqb, ltb, leb, List, [], ◌∷◌, length, is_some, Some, None, Option, sym, refl, ap, ◌∙◌, subst, arith}
use Rattle.std.specs.List.{AllByRecursion}
use Rattle.std.proofs.lemmas.Bool.{ltb-false, leb-false, eqb-true}
use Rattle.terms.specs.declared.refusal.Refusal.{Refusal}
use Rattle.terms.specs.declared.refusal.Refusal.TheVariants.{NoPile}
use Rattle.terms.specs.Limits.{outside, Within, soil_limits, thickness_limits, pressure_limits, modulus_limits, ceiling_limits, max_layers, max_depth, category_limits, mark_limits, vibrodriven_limits, diameter_limits, perimeter_limits, area_limits, pile_modulus_limits, length_limits, tip_factor_limits, step_limits, load_limits, factor_limits}
use Rattle.terms.specs.Fractions.{Fraction}
use Rattle.terms.proofs.Chained.{or_none, when_none, or_free, when_free, is_none, within, within_free}
use Rattle.ground.specs.declared.layer.Layer.{Layer}
use Rattle.ground.specs.Layers.{depth}
use Rattle.ground.specs.Edits.{lay_refusal, amend_refusal}
use Rattle.ground.proofs.Laying.{layable}
use Rattle.pile.specs.declared.numbers.PileNumbers.{PileNumbers}
use Rattle.pile.specs.Numbers.{pile_flaw}
use Rattle.pile.specs.Tip.{needed_depth}
use Rattle.pile.specs.Shaft.{ShaftPart}
use Rattle.pile.proofs.Bounds.{pile_bounds, layer_bounds}
use Rattle.friction.specs.Rule.{Agrees}
use Rattle.resistance.specs.Fetched.{said_of, unsaid_from}
use Rattle.resistance.specs.Resistance.{resistance_by}
use Rattle.resistance.specs.Judging.{site_refusal}
use Rattle.resistance.proofs.Margins.{resistance_near}
use Rattle.calls.specs.declared.Question.{Question}
use Rattle.calls.specs.declared.Answer.{Answer}
use Rattle.calls.specs.declared.Answer.TheVariants.{Refused}
use Rattle.study.specs.Sites.{Site, Plain}
use Rattle.study.specs.Sites.Plain.{Lay, Amend, Lift, Drive, Judge}
use Rattle.study.specs.Rules.{Meaning, by_pile, judge_refusal, resistance_on, WithinMargin}
use Rattle.story.specs.Allowed.{TakesLayer, TakesAmendment, TakesPile, TakesJudging, Allowed}
use Rattle.story.specs.Story.{refusal_of, answer_of, Lawful, Granted, Denied}

takes_layer : (s : Site) (l : Layer) → lay_refusal s.layers l ≡ None → TakesLayer s l
takes_layer s l e =
    let may = layable s.layers l e in
    let bounds = layer_bounds l may.fits in
    record {
      soil_fits = bounds.soil;
      thickness_fits = bounds.thickness;
      pressure_fits = bounds.pressure;
      modulus_fits = bounds.modulus;
      ceiling_fits = bounds.ceiling;
      room = may.few;
      shallow = may.shallow;
    }

layer_free : (s : Site) (l : Layer) → TakesLayer s l → lay_refusal s.layers l ≡ None
layer_free s l h =
    or_free _ _
    (or_free _ _ (within_free soil_limits l.soil _ h.soil_fits)
    (or_free _ _ (within_free thickness_limits l.thickness _ h.thickness_fits)
    (or_free _ _ (within_free pressure_limits l.pressure _ h.pressure_fits)
    (or_free _ _ (within_free modulus_limits l.modulus _ h.modulus_fits) (within_free ceiling_limits l.ceiling _ h.ceiling_fits)))))
    (or_free _ _ (when_free (leb max_layers (length s.layers)) _ (let r = h.room in grind arith)) (when_free (ltb max_depth (depth s.layers + l.thickness)) _ (let r = h.shallow in grind arith)))

takes_amendment : (s : Site) (i p m : ℕ) → amend_refusal s.layers i p m ≡ None → TakesAmendment s i p m
takes_amendment s i p m e =
    let a = or_none _ _ e in
    let b = or_none _ _ a.1 in
    record {
      there = leb-false (length s.layers) i (when_none _ _ a.0);
      pressure_fits = within pressure_limits p _ b.0;
      modulus_fits = within modulus_limits m _ b.1;
    }

amendment_free : (s : Site) (i p m : ℕ) → TakesAmendment s i p m → amend_refusal s.layers i p m ≡ None
amendment_free s i p m h =
    or_free _ _ (when_free (leb (length s.layers) i) _ (let r = h.there in grind arith))
    (or_free _ _ (within_free pressure_limits p _ h.pressure_fits) (within_free modulus_limits m _ h.modulus_fits))

marked : (n : PileNumbers) → (eqb n.mark 1 && outside vibrodriven_limits n.category) ≡ false → n.mark ≡ 1 → Within vibrodriven_limits n.category
marked n e h = grind arith

unmarked : (n : PileNumbers) → (n.mark ≡ 1 → Within vibrodriven_limits n.category) → Within mark_limits n.mark → (eqb n.mark 1 && outside vibrodriven_limits n.category) ≡ false
unmarked n h k = by_mark (eqb n.mark 1) refl
  where
    by_mark : (b : Bool) → eqb n.mark 1 ≡ b → (b && outside vibrodriven_limits n.category) ≡ false
    by_mark false e = refl
    by_mark true e = let w = h (eqb-true n.mark 1 e) in grind arith

takes_pile : (n : PileNumbers) → pile_flaw n ≡ None → TakesPile n
takes_pile n e =
    let bounds = pile_bounds n (is_none (pile_flaw n) e) in
    record {
      category_fits = bounds.category;
      mark_fits = bounds.mark;
      diameter_fits = bounds.diameter;
      even = bounds.even;
      perimeter_fits = bounds.perimeter;
      tip_area_fits = bounds.tip_area;
      section_fits = bounds.section;
      modulus_fits = bounds.modulus;
      length_fits = bounds.length;
      tip_factor_fits = bounds.tip_factor;
      step_fits = bounds.step;
      vibrodriven = marked n bounds.marked;
    }

pile_free : (n : PileNumbers) → TakesPile n → pile_flaw n ≡ None
pile_free n h =
    or_free _ _
    (or_free _ _ (within_free category_limits n.category _ h.category_fits)
    (or_free _ _ (within_free mark_limits n.mark _ h.mark_fits)
    (or_free _ _ (within_free diameter_limits n.diameter _ h.diameter_fits)
    (or_free _ _ (when_free (not (eqb (n.diameter % 2) 0)) _ (ap (λ (x : ℕ). not (eqb x 0)) h.even))
    (or_free _ _ (within_free perimeter_limits n.perimeter _ h.perimeter_fits) (within_free area_limits n.tip_area _ h.tip_area_fits))))))
    (or_free _ _
    (or_free _ _ (within_free area_limits n.section _ h.section_fits)
    (or_free _ _ (within_free pile_modulus_limits n.modulus _ h.modulus_fits)
    (or_free _ _ (within_free length_limits n.length _ h.length_fits)
    (or_free _ _ (within_free tip_factor_limits n.tip_factor _ h.tip_factor_fits) (within_free step_limits n.step _ h.step_fits)))))
    (when_free _ _ (unmarked n h.vibrodriven h.mark_fits)))

module _ (m : Meaning) (agrees : (soil category p : ℕ) → Agrees m.tolerance (m.fraction soil category p) (m.answer soil category p)) where
  has_fraction : (t : ℕ) (f : Option Fraction) (a : Option ℕ) → Agrees t f a → not (is_some a) ≡ false → is_some f ≡ true
  has_fraction t None None h e = cc
  has_fraction t None (Some a) h e = absurd h
  has_fraction t (Some f) None h e = absurd h
  has_fraction t (Some f) (Some a) h e = refl

  has_answer : (t : ℕ) (f : Option Fraction) (a : Option ℕ) → Agrees t f a → is_some f ≡ true → not (is_some a) ≡ false
  has_answer t None None h e = cc
  has_answer t None (Some a) h e = absurd h
  has_answer t (Some f) None h e = absurd h
  has_answer t (Some f) (Some a) h e = refl

  all_known : (n : PileNumbers) (i : ℕ) (ss : List ShaftPart) → unsaid_from m.answer n i ss ≡ None → AllByRecursion (λ part. is_some (said_of m.fraction n part.layer) ≡ true) ss
  all_known n i [] e = tt
  all_known n i (s ∷ ss) e =
      let a = or_none _ _ e in
      (has_fraction m.tolerance _ (said_of m.answer n s.layer) (agrees s.layer.soil n.category s.layer.pressure) (when_none _ _ a.0), all_known n (i + 1) ss a.1)

  known_free : (n : PileNumbers) (i : ℕ) (ss : List ShaftPart) → AllByRecursion (λ part. is_some (said_of m.fraction n part.layer) ≡ true) ss → unsaid_from m.answer n i ss ≡ None
  known_free n i [] h = refl
  known_free n i (s ∷ ss) h =
      or_free _ _ (when_free _ _ (has_answer m.tolerance (said_of m.fraction n s.layer) _ (agrees s.layer.soil n.category s.layer.pressure) h.0)) (known_free n (i + 1) ss h.1)

  takes_judging : (s : Site) (q : Question) → judge_refusal m.answer s q ≡ None → TakesJudging m s q
  takes_judging s q e =
      let a = or_none _ _ e in
      let b = or_none _ _ a.0 in
      let c = or_none _ _ b.1 in
      by_driven s.pile refl (within load_limits q.load _ b.0) (within factor_limits q.model_factor _ c.0) (within factor_limits q.resistance_factor _ c.1) a.1
    where
      by_driven : (o : Option PileNumbers) → s.pile ≡ o → Within load_limits q.load → Within factor_limits q.model_factor → Within factor_limits q.resistance_factor
          → by_pile o (Some NoPile) (site_refusal m.answer s.layers) ≡ None → TakesJudging m s q
      by_driven None is l f g e = cc
      by_driven (Some n) is l f g e =
          let d = or_none _ _ e in
          record {
            load_fits = l;
            model_fits = f;
            resistance_fits = g;
            driven = n;
            there = is;
            deep = ltb-false (depth s.layers) (needed_depth n) (when_none _ _ d.0);
            known = all_known n 0 _ d.1;
          }

  judging_free : (s : Site) (q : Question) → TakesJudging m s q → judge_refusal m.answer s q ≡ None
  judging_free s q h =
      let n = h.driven in
      or_free _ _
      (or_free _ _ (within_free load_limits q.load _ h.load_fits) (or_free _ _ (within_free factor_limits q.model_factor _ h.model_fits) (within_free factor_limits q.resistance_factor _ h.resistance_fits)))
      (ap (λ (o : Option PileNumbers). by_pile o (Some NoPile) (site_refusal m.answer s.layers)) h.there
      ∙ or_free _ _ (when_free (ltb (depth s.layers) (needed_depth n)) _ (let r = h.deep in grind arith)) (known_free n 0 _ h.known))

  -- no refusal, so allowed
  pub allowed_of : (s : Site) (c : Plain) → refusal_of m s c ≡ None → Allowed m s c
  allowed_of s (Lay l) e = takes_layer s l e
  allowed_of s (Amend i p k) e = takes_amendment s i p k e
  allowed_of s Lift e = leb-false (length s.layers) 0 (when_none _ _ e)
  allowed_of s (Drive n) e = takes_pile n e
  allowed_of s (Judge q) e = takes_judging s q e

  -- allowed, so no refusal
  pub free : (s : Site) (c : Plain) → Allowed m s c → refusal_of m s c ≡ None
  free s (Lay l) h = layer_free s l h
  free s (Amend i p k) h = amendment_free s i p k h
  free s Lift h = when_free (leb (length s.layers) 0) _ (grind arith)
  free s (Drive n) h = pile_free n h
  free s (Judge q) h = judging_free s q h

  judged_near : (s : Site) (q : Question) → TakesJudging m s q → WithinMargin m s (resistance_on m.answer s)
  judged_near s q h =
      let n = h.driven in
      let near = resistance_near m.tolerance m.fraction m.answer agrees s.layers n (let r = h.deep in omega arith) (known_free n 0 _ h.known) in
      subst (λ (o : Option PileNumbers). WithinMargin m (record { layers = s.layers; pile = o }) (by_pile o 0 (resistance_by m.answer s.layers))) (sym h.there) near

  lawful_of : (s : Site) (c : Plain) → refusal_of m s c ≡ None → Lawful m s c
  lawful_of s (Lay l) e = tt
  lawful_of s (Amend i p k) e = tt
  lawful_of s Lift e = tt
  lawful_of s (Drive n) e = tt
  lawful_of s (Judge q) e = judged_near s q (takes_judging s q e)

  pub grant : (s : Site) (c : Plain) (a : Answer) → refusal_of m s c ≡ None → a ≡ answer_of m s c → Granted m s c a
  grant s c a e is = record { allowed = allowed_of s c e; right = is; lawful = lawful_of s c e }

  pub deny : (s : Site) (c : Plain) (r : Refusal) → refusal_of m s c ≡ Some r → Denied m s c (Refused r)
  deny s c r e = record {
    not_allowed = λ h. let f : refusal_of m s c ≡ None = free s c h in cc;
    refusal = r;
    right = refl;
    first = e;
  }
