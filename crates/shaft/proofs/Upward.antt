-- What holds of the parts of a shaft, in either order: their height, their contacts and their resistance.
use Rattle.std.proofs.Common.{◌≡◌, ℕ, zero, suc, ◌+◌, ◌-◌, ◌*◌, ◌≤◌, true, not, List, [], ◌∷◌, ◌++◌, reverse, refl, ap, ◌∙◌, arith}
use Rattle.std.proofs.lemmas.Bool.{and_parts, and_from, or_from, le-ltb, not_from_false}
use Rattle.std.proofs.lemmas.List.{reverse-append}
use Rattle.terms.specs.declared.limits.Limits.{Limits}
use Rattle.terms.specs.Limits.{Within, outside, soil_limits, modulus_limits, unit_resistance_limits, friction_limits}
use Rattle.ground.specs.declared.layer.Layer.{Layer}
use Rattle.ground.specs.Layers.{fit, sound}
use Rattle.pile.specs.declared.numbers.PileNumbers.{PileNumbers}
use Rattle.pile.specs.Frictions.{all_moderate}
use Rattle.pile.specs.Shaft.{ShaftPart, parts_above, shaft_resistance, resistance_over}
use Rattle.pile.proofs.Bounds.{layer_bounds, moderate_at}
use Rattle.column.specs.declared.Part.{Part}
use Rattle.column.specs.declared.PileBody.{PileBody}
use Rattle.shaft.specs.Room.{height_of, part_resistance, parts_resistance, whole_resistance, all_contacts}
use Rattle.shaft.specs.Attached.{attached, parts_up, body_on}
use Rattle.shaft.proofs.Attaching.{attached_free, attached_more}

turned : (p : Part) (ps : List Part) → reverse (p ∷ ps) ≡ reverse ps ++ p ∷ []
turned p ps = reverse-append (p ∷ []) ps

-- a sum over the parts is the same in either order
module _ (each : Part → ℕ) (total : List Part → ℕ) (none : total [] ≡ 0) (more : (p : Part) (ps : List Part) → total (p ∷ ps) ≡ each p + total ps) where
  one_last : (ps : List Part) (p : Part) → total (ps ++ p ∷ []) ≡ total ps + each p
  one_last [] p = omega (arith, more p [], none)
  one_last (o ∷ ps) p = omega (arith, more o (ps ++ p ∷ []), more o ps, one_last ps p)

  sum_reverse : (ps : List Part) → total (reverse ps) ≡ total ps
  sum_reverse [] = refl
  sum_reverse (p ∷ ps) = omega (arith, ap total (turned p ps), one_last (reverse ps) p, more p ps, sum_reverse ps)

height_reverse : (ps : List Part) → height_of (reverse ps) ≡ height_of ps
height_reverse = sum_reverse (λ p. p.height) height_of refl (λ p ps. refl)

resistance_reverse : (b : PileBody) (ps : List Part) → parts_resistance b (reverse ps) ≡ parts_resistance b ps
resistance_reverse b = sum_reverse (part_resistance b) (parts_resistance b) refl (λ p ps. refl)

contacts_push : (ps : List Part) (p : Part) → all_contacts ps ≡ true → all_contacts (p ∷ []) ≡ true → all_contacts (ps ++ p ∷ []) ≡ true
contacts_push [] p h k = k
contacts_push (o ∷ ps) p h k = let s = and_parts _ (all_contacts ps) h in and_from _ _ s.0 (contacts_push ps p s.1 k)

contacts_reverse : (ps : List Part) → all_contacts ps ≡ true → all_contacts (reverse ps) ≡ true
contacts_reverse [] h = refl
contacts_reverse (p ∷ ps) h =
    let s = and_parts _ (all_contacts ps) h in
    ap all_contacts (turned p ps) ∙ contacts_push (reverse ps) p (contacts_reverse ps s.1) (and_from _ _ s.0 refl)

attached_height : (d : ℕ) (ls : List Layer) (qs : List ℕ) → height_of (attached (parts_above d ls) qs) ≤ d
attached_height d [] qs = omega arith
attached_height zero (l ∷ ls) qs = omega arith
attached_height (suc d) (l ∷ ls) [] = omega (arith, ap height_of (attached_free (parts_above (suc d) (l ∷ ls))))
attached_height (suc d) (l ∷ ls) (q ∷ qs) = omega (arith, ap height_of (attached_more (suc d) l ls q qs (omega arith)), attached_height (suc d - l.thickness) ls qs)

attached_resistance : (b : PileBody) (ss : List ShaftPart) (qs : List ℕ) → parts_resistance b (attached ss qs) ≡ shaft_resistance b.perimeter ss qs
attached_resistance b [] qs = refl
attached_resistance b (s ∷ ss) [] = refl
attached_resistance b (s ∷ ss) (q ∷ qs) = ap (λ x. b.perimeter * s.height * q + x) (attached_resistance b ss qs)

inside : (l : Limits) (x : ℕ) → Within l x → not (outside l x) ≡ true
inside l x h = not_from_false _ (or_from _ _ (le-ltb x l.least h.0) (le-ltb l.most x h.1))

attached_contacts : (d : ℕ) (ls : List Layer) (qs : List ℕ) → sound ls ≡ true → all_moderate qs ≡ true → all_contacts (attached (parts_above d ls) qs) ≡ true
attached_contacts d [] qs f m = refl
attached_contacts zero (l ∷ ls) qs f m = refl
attached_contacts (suc d) (l ∷ ls) [] f m = ap all_contacts (attached_free (parts_above (suc d) (l ∷ ls)))
attached_contacts (suc d) (l ∷ ls) (q ∷ qs) f m =
    let fits = and_parts (fit l) (sound ls) f in
    let bounds = layer_bounds l fits.0 in
    let moderate : q ≤ 500000 = moderate_at (q ∷ qs) 0 0 (omega arith) m in
    let small : Within unit_resistance_limits q = (omega arith, omega arith) in
    let rest = attached_contacts (suc d - l.thickness) ls qs fits.1 (and_parts (not (outside friction_limits q)) (all_moderate qs) m).1 in
    ap all_contacts (attached_more (suc d) l ls q qs (omega arith))
    ∙ and_from _ _ (and_from _ _ (and_from _ _ (inside soil_limits l.soil bounds.soil) (inside modulus_limits l.modulus bounds.modulus)) (inside unit_resistance_limits q small)) rest

module _ (ls : List Layer) (n : PileNumbers) (qs : List ℕ) (ps : List Part) (e : ps ≡ parts_up ls n qs) where
  pub contacts_up : sound ls ≡ true → all_moderate qs ≡ true → all_contacts ps ≡ true
  contacts_up f m = ap all_contacts e ∙ contacts_reverse (attached (parts_above n.length ls) qs) (attached_contacts n.length ls qs f m)

  pub height_up : height_of ps ≤ n.length
  height_up = omega (arith, ap height_of e, height_reverse (attached (parts_above n.length ls) qs), attached_height n.length ls qs)

  -- what the parts and the tip carry is R
  pub resistance_up : (b : PileBody) → b ≡ body_on ls n → whole_resistance b ps ≡ resistance_over ls n qs
  resistance_up b f =
      let parts = attached (parts_above n.length ls) qs in
      ap (λ x. whole_resistance x ps) f ∙ ap (whole_resistance (body_on ls n)) e
      ∙ ap (λ x. n.tip_area * (body_on ls n).tip_resistance + x) (resistance_reverse (body_on ls n) parts ∙ attached_resistance (body_on ls n) (parts_above n.length ls) qs)
