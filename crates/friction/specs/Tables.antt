-- What holds of every entry of the pressuremeter's tables, by one test that is computed; and the rule's tolerance.
use Rattle.std.specs.Prelude.{◌≡◌, ℕ, zero, suc, ◌-◌, ◌*◌, ◌≤◌, Bool, true, false, cond, leb, List, [], ◌∷◌, Some, None, Option, nat_le, slice_index_or, refl}
use Rattle.std.proofs.Common.{sym, ap, ◌∙◌, mul-le-mul, arith}
use Rattle.std.specs.List.{list_all}
use Rattle.std.specs.Option.{option_map}
use Rattle.std.proofs.lemmas.Bool.{and_parts, leb-true}
use Rattle.std.proofs.lemmas.Bool.Decides.{nat_tests}
use Rattle.terms.specs.Fractions.{Fraction, Near}
use Rattle.friction.specs.Rule.{Agrees, beyond_limits}
use Rattle.friction.specs.Pressuremeter.{alphas, alpha_of, slope_of, base_of, growth_of, line_at, friction_at, answer_at, pressuremeter_fraction, pressuremeter_answer}
use Rattle.friction.specs.Horner.{near_sum}

-- what passes at every element and at the default passes at any index
passes_at : {X : Type 0} (f : X → Bool) (xs : List X) (d : X) → list_all f xs ≡ true → f d ≡ true → (i : ℕ) → f (slice_index_or xs i d) ≡ true
passes_at f [] d t fd i = fd
passes_at f (x ∷ xs) d t fd zero = (and_parts (f x) (list_all f xs) t).0
passes_at f (x ∷ xs) d t fd (suc i) = passes_at f xs d (and_parts (f x) (list_all f xs) t).1 fd i

abbrev small : Option ℕ → Bool
small None = true
small (Some a) = nat_le a 380

pub alpha_small : (soil category a : ℕ) → alpha_of soil category ≡ Some a → a ≤ 380
alpha_small soil category a e =
    let row = passes_at (list_all small) alphas [] refl refl (category - 1) in
    let entry : small (alpha_of soil category) ≡ true = passes_at small (slice_index_or alphas (category - 1) []) None row refl (soil - 1) in
    let entry1 : small (Some a) ≡ true = ap small (sym e) ∙ entry in
    leb-true a 380 entry1

pub line_small : (soil p : ℕ) → p ≤ 10000 → line_at soil p ≤ 180000
line_small soil p h =
    let s : slope_of soil ≤ 10 = leb-true (slope_of soil) 10 (passes_at (λ a. leb a 10) (3 ∷ 10 ∷ 7 ∷ 8 ∷ 10 ∷ []) 0 refl refl (soil - 1)) in
    let b : base_of soil ≤ 8 = leb-true (base_of soil) 8 (passes_at (λ a. leb a 8) (4 ∷ 6 ∷ 7 ∷ 8 ∷ 8 ∷ []) 0 refl refl (soil - 1)) in
    let m : slope_of soil * p ≤ 10 * 10000 = mul-le-mul s h in
    omega arith

-- the greatest α times the greatest line
pub amount_small : (soil p a : ℕ) → p ≤ 10000 → a ≤ 380 → a * line_at soil p ≤ 68400000
amount_small soil p a hp ha = mul-le-mul ha (line_small soil p hp)

pub inside_all : (soil category p : ℕ) → beyond_limits soil category p ≡ false → (1 ≤ soil) × (soil ≤ 5) × (1 ≤ category) × (category ≤ 20) × (p ≤ 10000)
inside_all soil category p h = grind (arith, nat_tests)

agrees_by_alpha : (t : ℕ) (b : Bool) (o : Option ℕ) (F : ℕ → Fraction) (G : ℕ → ℕ) → ((a : ℕ) → b ≡ false → o ≡ Some a → Near t (G a) (F a)) → Agrees t (cond b None (option_map F o)) (cond b None (option_map G o))
agrees_by_alpha t true o F G h = tt
agrees_by_alpha t false None F G h = tt
agrees_by_alpha t false (Some a) F G h = h a refl refl

-- the tolerance of the pressuremeter
pub pressuremeter_within : (soil category p : ℕ) → Agrees 10 (pressuremeter_fraction 60 soil category p) (pressuremeter_answer soil category p)
pressuremeter_within soil category p =
    agrees_by_alpha 10 (beyond_limits soil category p) (alpha_of soil category) (friction_at 60 soil p) (answer_at soil p)
    (λ a inside ha.
    let small : a * line_at soil p ≤ 68400000 = amount_small soil p a (inside_all soil category p inside).4 (alpha_small soil category a ha) in
    let times : (C : ℕ) → C ≤ 68400000 → C * 60 ≤ 9 * (100 * 1000000000) = λ C h. omega arith in
    near_sum 1000000000 (growth_of soil * p) 10000 60 (a * line_at soil p) 9 (omega arith) (omega arith) (times (a * line_at soil p) small))
