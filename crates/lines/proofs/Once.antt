-- Why a line has one meaning.
use Rattle.std.proofs.Common.{◌≡◌, ℕ, zero, suc, ◌+◌, ◌-◌, ◌<◌, cond, eqb, List, [], ◌∷◌, length, get_or, take, drop, sym, refl, ap, ◌∙◌, subst, inl, inr, eq-zero-or-pos, arith}
use Rattle.std.specs.Str.Parse.{digits_value}
use Rattle.terms.specs.declared.refusal.Refusal.{Refusal}
use Rattle.calls.specs.declared.Call.{Call}
use Rattle.calls.specs.declared.Call.TheVariants.{Lay, Amend, Lift, Drive, Judge}
use Rattle.lines.specs.declared.letter.Letter.{Letter}
use Rattle.lines.specs.declared.letter.Letter.TheVariants.{Lay as letter_l, Amend as letter_a, Lift as letter_u, Drive as letter_p, Judge as letter_j}
use Rattle.lines.specs.Letters.{code, arity, Begins}
use Rattle.lines.specs.Fields.{Shape, Field, Fields, Malformed}
use Rattle.lines.specs.Grammar.{letter_of, numbers_of, Says, Misread}
use Rattle.lines.specs.Meaning.{OneMeaning}

shape_less : (text : List ℕ) (n m : ℕ) → Shape text n → Shape text m → n < m → ⊥
shape_less text n m a b lt = omega (arith, a.ends (omega (arith, b.inside)), b.digits n lt)

shape_once : (text : List ℕ) (n m : ℕ) → Shape text n → Shape text m → n ≡ m
shape_once text n m a b =
    elim (eq-zero-or-pos (m - n)) [
      | inl p ↦ elim (eq-zero-or-pos (n - m)) [ inl q ↦ omega arith | inr q ↦ absurd (shape_less text m n b a (omega arith)) ]
      | inr p ↦ absurd (shape_less text n m a b (omega arith))
    ]

field_once : {text r s : List ℕ} {v w : ℕ} → Field text v r → Field text w s → (v ≡ w) × (r ≡ s)
field_once {text} a b =
    let n = shape_once text a.width b.width a.shape b.shape in
    (a.worth ∙ ap (λ k. digits_value 10 (take k (drop 1 text))) n ∙ sym b.worth, a.follows ∙ ap (λ k. drop (k + 1) text) n ∙ sym b.follows)

fields_once : (text vs ws : List ℕ) → length vs ≡ length ws → Fields text vs → Fields text ws → vs ≡ ws
fields_once text [] [] e a b = refl
fields_once text [] (w ∷ ws) e a b = absurd (omega arith)
fields_once text (v ∷ vs) [] e a b = absurd (omega arith)
fields_once text (v ∷ vs) (w ∷ ws) e a b =
    let one = field_once a.1 b.1 in
    let tail = fields_once b.0 vs ws (omega arith) (subst (λ r. Fields r vs) one.1 a.2) b.2 in
    λ i. one.0 i ∷ tail i

malformed_once : (text : List ℕ) (n k : ℕ) (e f : Refusal) → Malformed text n k e → Malformed text n k f → e ≡ f
malformed_once text zero k e f a b = a.1 ∙ sym b.1
malformed_once text (suc n) k e f (inl a) (inl b) = a.1 ∙ sym b.1
malformed_once text (suc n) k e f (inl a) (inr b) = absurd (a.0 b.2.width b.2.shape)
malformed_once text (suc n) k e f (inr a) (inl b) = absurd (b.0 a.2.width a.2.shape)
malformed_once text (suc n) k e f (inr a) (inr b) =
    let one = field_once a.2 b.2 in
    malformed_once b.1 n (k + 1) e f (subst (λ r. Malformed r n (k + 1) e) one.1 a.3) b.3

fields_not_malformed : (text vs : List ℕ) (k : ℕ) (e : Refusal) → Fields text vs → Malformed text (length vs) k e → ⊥
fields_not_malformed text [] k e a b = omega (arith, a, b.0)
fields_not_malformed text (v ∷ vs) k e a (inl b) = b.0 a.1.width a.1.shape
fields_not_malformed text (v ∷ vs) k e a (inr b) =
    let one = field_once a.1 b.2 in
    fields_not_malformed b.1 vs (k + 1) e (subst (λ r. Fields r vs) one.1 a.2) b.3

abbrev letter_at : ℕ → Letter
letter_at c =
    cond (eqb c 76) letter_l (cond (eqb c 65) letter_a (cond (eqb c 85) letter_u (cond (eqb c 80) letter_p letter_j)))

letter_back : (l : Letter) → letter_at (code l) ≡ l
letter_back letter_l = refl
letter_back letter_a = refl
letter_back letter_u = refl
letter_back letter_p = refl
letter_back letter_j = refl

letter_once : (line : List ℕ) (l m : Letter) → Begins line l → Begins line m → l ≡ m
letter_once line l m a b = sym (letter_back l) ∙ ap letter_at (sym a.1 ∙ b.1) ∙ letter_back m

-- the call of that letter with those numbers
abbrev build : Letter → List ℕ → Call
build letter_l vs =
    Lay (record { soil = get_or vs 0 0; thickness = get_or vs 1 0; pressure = get_or vs 2 0; modulus = get_or vs 3 0; ceiling = get_or vs 4 0 })
build letter_a vs = Amend (record { index = get_or vs 0 0; pressure = get_or vs 1 0; modulus = get_or vs 2 0 })
build letter_u vs = Lift
build letter_p vs =
    Drive (record { category = get_or vs 0 0; mark = get_or vs 1 0; diameter = get_or vs 2 0; perimeter = get_or vs 3 0; tip_area = get_or vs 4 0; section = get_or vs 5 0; modulus = get_or vs 6 0; length = get_or vs 7 0; tip_factor = get_or vs 8 0; step = get_or vs 9 0 })
build letter_j vs = Judge (record { load = get_or vs 0 0; model_factor = get_or vs 1 0; resistance_factor = get_or vs 2 0 })

build_back : (c : Call) → build (letter_of c) (numbers_of c) ≡ c
build_back (Lay l) = refl
build_back (Amend a) = refl
build_back Lift = refl
build_back (Drive p) = refl
build_back (Judge q) = refl

length_numbers : (c : Call) → length (numbers_of c) ≡ arity (letter_of c)
length_numbers (Lay l) = refl
length_numbers (Amend a) = refl
length_numbers Lift = refl
length_numbers (Drive p) = refl
length_numbers (Judge q) = refl

says_once : (line : List ℕ) (c d : Call) → Says line c → Says line d → c ≡ d
says_once line c d a b =
    let l = letter_once line (letter_of c) (letter_of d) a.begins b.begins in
    let n : length (numbers_of c) ≡ length (numbers_of d) = length_numbers c ∙ ap arity l ∙ sym (length_numbers d) in
    let f = fields_once (drop 1 line) (numbers_of c) (numbers_of d) n a.holds b.holds in
    sym (build_back c) ∙ (λ i. build (l i) (f i)) ∙ build_back d

misread_once : (line : List ℕ) (e f : Refusal) → Misread line e → Misread line f → e ≡ f
misread_once line e f (inl a) (inl b) = a.1 ∙ sym b.1
misread_once line e f (inl a) (inr b) = absurd (a.0 b.0 b.1)
misread_once line e f (inr a) (inl b) = absurd (b.0 a.0 a.1)
misread_once line e f (inr (l, x, inl a)) (inr (m, y, inl b)) = a.1 ∙ sym b.1
misread_once line e f (inr (l, x, inl a)) (inr (m, y, inr b)) = absurd (omega (arith, a.0, b.0))
misread_once line e f (inr (l, x, inr a)) (inr (m, y, inl b)) = absurd (omega (arith, a.0, b.0))
misread_once line e f (inr (l, x, inr a)) (inr (m, y, inr b)) =
    malformed_once (drop 1 line) (arity m) 1 e f (subst (λ n. Malformed (drop 1 line) (arity n) 1 e) (letter_once line l m x y) a.1) b.1

said_not_misread : (line : List ℕ) (c : Call) (e : Refusal) → Says line c → Misread line e → ⊥
said_not_misread line c e a (inl b) = b.0 (letter_of c) a.begins
said_not_misread line c e a (inr (m, y, inl b)) = omega (arith, a.short, b.0)
said_not_misread line c e a (inr (m, y, inr b)) =
    let n : arity m ≡ length (numbers_of c) = ap arity (letter_once line m (letter_of c) y a.begins) ∙ sym (length_numbers c) in
    fields_not_malformed (drop 1 line) (numbers_of c) 1 e a.holds (subst (λ k. Malformed (drop 1 line) k 1 e) n b.1)

pub one_meaning : (line : List ℕ) → OneMeaning line
one_meaning line = record { one_call = says_once line; one_reason = misread_once line; not_both = said_not_misread line }
