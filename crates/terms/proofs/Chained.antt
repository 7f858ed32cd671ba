-- A chain of conditions without a refusal: none of the conditions holds.
use Rattle.std.proofs.Common.{◌≡◌, ℕ, Bool, true, false, not, ltb, is_some, Some, None, Option, Ok, Err, refl, arith}
use Rattle.std.proofs.lemmas.Bool.{or_parts, ltb-false}
use Rattle.terms.specs.declared.limits.Limits.{Limits}
use Rattle.terms.specs.declared.refusal.Refusal.{Refusal}
use Rattle.terms.specs.Limits.{outside, Within}
use Rattle.terms.specs.Chains.{when, or_else, unless}

pub or_none : {X : Type 0} (a b : Option X) → or_else a b ≡ None → (a ≡ None) × (b ≡ None)
or_none None b e = (refl, e)
or_none (Some x) b e = cc

pub when_none : (b : Bool) (r : Refusal) → when b r ≡ None → b ≡ false
when_none false r e = refl
when_none true r e = cc

-- granted is without a refusal, and refused with that one
pub granted : (o : Option Refusal) → Ok tt ≡ unless o → o ≡ None
granted None e = refl
granted (Some r) e = cc

pub refused : (o : Option Refusal) (r : Refusal) → Err r ≡ unless o → o ≡ Some r
refused None r e = cc
refused (Some s) r e = cc

pub or_free : {X : Type 0} (a b : Option X) → a ≡ None → b ≡ None → or_else a b ≡ None
or_free None b e f = f
or_free (Some x) b e f = cc

pub when_free : (b : Bool) (r : Refusal) → b ≡ false → when b r ≡ None
when_free false r e = refl
when_free true r e = cc

pub none_of : {X : Type 0} (o : Option X) → not (is_some o) ≡ true → o ≡ None
none_of None e = refl
none_of (Some x) e = cc

pub is_none : {X : Type 0} (o : Option X) → o ≡ None → not (is_some o) ≡ true
is_none None e = refl
is_none (Some x) e = cc

pub within : (l : Limits) (x : ℕ) (r : Refusal) → when (outside l x) r ≡ None → Within l x
within l x r e =
    let p = or_parts (ltb x l.least) (ltb l.most x) (when_none (outside l x) r e) in
    (ltb-false x l.least p.0, ltb-false l.most x p.1)

pub within_free : (l : Limits) (x : ℕ) (r : Refusal) → Within l x → when (outside l x) r ≡ None
within_free l x r h = grind arith
