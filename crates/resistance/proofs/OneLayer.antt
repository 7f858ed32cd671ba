-- One layer on in the fetching of frictions.
use Rattle.std.proofs.Common.{◌≡◌, ℕ, ◌+◌, ◌-◌, ◌<◌, min, not, List, [], ◌∷◌, ◌++◌, length, get_or, drop, is_some, Some, Option, Ok, Err, Result, unwrap_or, sym, refl, ap, ◌∙◌, arith}
use Rattle.std.proofs.lemmas.List.{at_drop_more, append_assoc}
use Rattle.terms.specs.declared.refusal.Refusal.TheVariants.{NoFriction}
use Rattle.terms.specs.Chains.{when, or_else}
use Rattle.ground.specs.declared.layer.Layer.{Layer}
use Rattle.ground.specs.Edits.{no_layer}
use Rattle.pile.specs.declared.numbers.PileNumbers.{PileNumbers}
use Rattle.pile.specs.declared.frictions.Frictions.{Frictions}
use Rattle.pile.specs.declared.frictions.Unfit.{Unfit}
use Rattle.pile.specs.FrictionList.{friction_list, Pushes}
use Rattle.pile.specs.Shaft.{ShaftPart, parts_above}
use Rattle.resistance.specs.UnitFriction.{friction_of}
use Rattle.resistance.specs.Fetched.{said_of, unsaid_from, frictions_of}

pub no_parts : (ls : List Layer) → parts_above 0 ls ≡ []
no_parts [] = refl
no_parts (l ∷ ls) = refl

parts_next : (d : ℕ) (l : Layer) (ls : List Layer) → 0 < d → parts_above d (l ∷ ls) ≡ record { height = min l.thickness d; layer = l } ∷ parts_above (d - l.thickness) ls
parts_next d l ls h = grind arith

-- where the depth goes on below the top of a layer, its part is the first
pub parts_here : (d below : ℕ) (ls : List Layer) (i : ℕ) → i < length ls → 0 < d → below ≡ d - (get_or ls i no_layer).thickness
    → parts_above d (drop i ls) ≡ record { height = min (get_or ls i no_layer).thickness d; layer = get_or ls i no_layer } ∷ parts_above below (drop (i + 1) ls)
parts_here d below ls i inside more e =
    let l = get_or ls i no_layer in
    let later = drop (i + 1) ls in
    at_drop_more (parts_above d) ls i no_layer inside ∙ parts_next d l later more ∙ sym (ap (λ (b : ℕ). record { height = min l.thickness d; layer = l } ∷ parts_above b later) e)

-- what fits is at the end of the list
pub pushed : (old new : Frictions) (q : ℕ) (r : Result (Unit {0}) Unfit) (u : Unit {0}) → r ≡ Ok u → Pushes old q r new → friction_list new ≡ friction_list old ++ q ∷ []
pushed old new q (Ok v) u e p = p.1
pushed old new q (Err x) u e p = cc

-- where the rule answers of the next part, its friction goes from what is to come to the end of what is there
module _ (answer : ℕ → ℕ → ℕ → Option ℕ) (n : PileNumbers) (s : ShaftPart) (zs ss : List ShaftPart) (next : zs ≡ s ∷ ss) (a : ℕ) (said : said_of answer n s.layer ≡ Some a) where
  pub answered_here : (k : ℕ) → unsaid_from answer n k zs ≡ unsaid_from answer n (k + 1) ss
  answered_here k = ap (unsaid_from answer n k) next ∙ ap (λ (o : Option ℕ). or_else (when (not (is_some o)) (NoFriction k)) (unsaid_from answer n (k + 1) ss)) said

  friction_here : frictions_of answer n zs ≡ friction_of n s.layer a ∷ frictions_of answer n ss
  friction_here = ap (frictions_of answer n) next ∙ ap (λ (o : Option ℕ). friction_of n s.layer (unwrap_or o 0) ∷ frictions_of answer n ss) said

  pub one_on : (was new all : List ℕ) → new ≡ was ++ friction_of n s.layer a ∷ [] → was ++ frictions_of answer n zs ≡ all → new ++ frictions_of answer n ss ≡ all
  one_on was new all is h =
      ap (λ qs. qs ++ frictions_of answer n ss) is
      ∙ append_assoc was (friction_of n s.layer a ∷ []) (frictions_of answer n ss)
      ∙ sym (ap (λ qs. was ++ qs) friction_here) ∙ h
