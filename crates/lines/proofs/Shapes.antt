-- A field is a space and the bytes before the next one.
use Rattle.std.proofs.Common.{◌≡◌, ◌∙◌, ℕ, ◌+◌, ◌≤◌, true, false, nat_eq, List, [], ◌∷◌, length, get_or, take, drop, sym, refl, add-one, arith, length-take-le, get_or-take}
use Rattle.std.proofs.lemmas.Grind.{common_steps}
use Rattle.std.specs.Cmp.Lexicographic.{pointwise}
use Rattle.std.specs.Str.Parse.{digits_value}
use Rattle.lines.specs.Fields.{Numeral, UpToSpace, NoNumber, Field, NoField}

-- text begins with a space, and rest follows it
abbrev pub Spaced : List ℕ → List ℕ → Type 0
Spaced text rest = (pointwise nat_eq (take 1 text) (32 ∷ []) ≡ true) × (rest ≡ drop 1 text) × (length rest + 1 ≡ length text)

pub unspaced : (text : List ℕ) → pointwise nat_eq (take 1 text) (32 ∷ []) ≡ false → NoField text
unspaced [] e w s = omega (arith, s.inside)
unspaced (x ∷ text) e w s = grind (arith, common_steps, s.space)

spaced : (text rest : List ℕ) → Spaced text rest → text ≡ 32 ∷ rest
spaced [] rest s = grind (arith, common_steps)
spaced (x ∷ text) rest s = grind (arith, common_steps)

behind : (rest : List ℕ) (k : ℕ) → get_or (32 ∷ rest) (k + 1) 0 ≡ get_or rest k 0
behind rest k = rw add-one refl

-- the bytes before the next space are no number
pub unread : {text rest : List ℕ} → Spaced text rest → NoNumber rest → NoField text
unread {text} {rest} s bad = rw (spaced text rest s) (λ w h.
    let inside : w ≤ length rest = omega (arith, h.inside) in
    let long = length-take-le w rest inside in
    bad w
    (record {
      inside = inside;
      none = λ k less e. omega (arith, h.digits k less, behind rest k, e);
      ends = λ more. sym (behind rest w) ∙ h.ends (omega arith);
    })
    (record {
      some = omega (arith, h.some);
      few = omega (arith, h.few);
      digits = λ k less.
          let d = h.digits k (omega arith) in
          let at = get_or-take w rest k 0 (omega arith) in
          (omega (arith, d, at, behind rest k), omega (arith, d, at, behind rest k));
    }))

-- they are a number
pub read : {text rest : List ℕ} {n number : ℕ} → Spaced text rest → UpToSpace rest n → Numeral (take n rest) → number ≡ digits_value 10 (take n rest) → Field text number (drop n rest)
read {text} {rest} {n} {number} s u numeral worth =
    let long = length-take-le n rest u.inside in
    rw (spaced text rest s) (record {
      width = n;
      shape = record {
        space = refl;
        some = omega (arith, numeral.some);
        few = omega (arith, numeral.few);
        inside = omega (arith, u.inside);
        digits = λ k h.
            let d = numeral.digits k (omega arith) in
            let at = get_or-take n rest k 0 h in
            (omega (arith, d, at, behind rest k), omega (arith, d, at, behind rest k));
        ends = λ h. behind rest n ∙ u.ends (omega arith);
      };
      worth = worth;
      follows = rw add-one refl;
    })
