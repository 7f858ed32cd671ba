-- Fields read one after the other: what the rest of a line is settles what the whole is.
use Rattle.std.proofs.Common.{◌≡◌, ℕ, suc, ◌+◌, ◌-◌, ◌<◌, List, [], ◌∷◌, ◌++◌, length, take, set, sym, refl, ap, ◌∙◌, subst, inl, inr, append_assoc, append-nil, add-one, arith, take-suc-set}
use lib.Seq.{take-length}
use Rattle.terms.specs.declared.refusal.Refusal.{Refusal}
use Rattle.terms.specs.declared.refusal.Refusal.TheVariants.{MalformedField}
use Rattle.lines.specs.Fields.{Field, NoField, Fields, Malformed}

-- the first i fields of text are read, and rest is what follows them
pub record Onward (text numbers rest : List ℕ) (i : ℕ) : Type 0 where
  pub good : (more : List ℕ) → Fields rest more → Fields text (take i numbers ++ more)
  pub bad : (count : ℕ) (e : Refusal) → Malformed rest count (i + 1) e → Malformed text (i + count) 1 e

pub start : (text numbers : List ℕ) → Onward text numbers text 0
start text numbers = record { good = λ more h. h; bad = λ count e h. subst (λ n. Malformed text n 1 e) (omega arith) h }

pub onward : {text numbers rest after : List ℕ} {i number : ℕ} → i < length numbers → Onward text numbers rest i → Field rest number after → Onward text (set numbers i number) after (i + 1)
onward {text} {numbers} {rest} {after} {i} {number} h o f =
    let front : take (i + 1) (set numbers i number) ≡ take i numbers ++ (number ∷ []) = rw add-one (take-suc-set numbers i number h) in
    record {
      good = λ more g.
          let whole : take (i + 1) (set numbers i number) ++ more ≡ take i numbers ++ (number ∷ more) = ap (λ l. l ++ more) front ∙ append_assoc (take i numbers) (number ∷ []) more in
          subst (Fields text) (sym whole) (o.good (number ∷ more) (after, f, g));
      bad = λ count e b.
          let total : i + suc count ≡ (i + 1) + count = omega arith in
          subst (λ n. Malformed text n 1 e) total (o.bad (suc count) e (inr (number, after, f, b)));
    }

-- the field that should come next does not
pub broken : {text numbers rest : List ℕ} {i n : ℕ} → i < n → Onward text numbers rest i → NoField rest → Malformed text n 1 (MalformedField (i + 1))
broken {text} {numbers} {rest} {i} {n} h o none =
    let total : i + suc (n - (i + 1)) ≡ n = omega arith in
    subst (λ m. Malformed text m 1 (MalformedField (i + 1))) total (o.bad (suc (n - (i + 1))) _ (inl (none, refl)))

-- all fields are read, and something follows
pub surplus : {text numbers rest : List ℕ} {i n : ℕ} → i ≡ n → Onward text numbers rest i → 0 < length rest → Malformed text n 1 (MalformedField (n + 1))
surplus {text} {numbers} {rest} {i} {n} e o some =
    let total : i + 0 ≡ i = omega arith in
    subst (λ m. Malformed text m 1 (MalformedField (m + 1))) e (subst (λ m. Malformed text m 1 (MalformedField (i + 1))) total (o.bad 0 _ (some, refl)))

-- all fields are read, and nothing follows
pub finished : {text numbers rest : List ℕ} {i : ℕ} → i ≡ length numbers → Onward text numbers rest i → length rest ≡ 0 → Fields text numbers
finished {text} {numbers} {rest} {i} h o none =
    let whole : take i numbers ++ [] ≡ numbers = append-nil (take i numbers) ∙ ap (λ n. take n numbers) h ∙ take-length numbers in
    subst (Fields text) whole (o.good [] none)
