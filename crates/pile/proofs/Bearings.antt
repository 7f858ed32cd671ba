-- Where the tops of the layers are, and that at most one layer bears at a depth.
use Rattle.std.proofs.Common.{◌≡◌, ℕ, ◌+◌, ◌-◌, ◌<◌, ◌≤◌, List, length, get_or, take, drop, ap, ◌∙◌, inl, inr, arith}
use Rattle.std.proofs.lemmas.Bool.{cases_order, cond-true, cond-false, lt-ltb, le-ltb}
use Rattle.std.proofs.lemmas.List.{take_more, take-take, at_drop_more}
use Rattle.ground.specs.declared.layer.Layer.{Layer}
use Rattle.ground.specs.Layers.{depth}
use Rattle.ground.specs.Edits.{no_layer}
use Rattle.ground.proofs.Tables.{depth_push, depth_take}
use Rattle.pile.specs.Bearing.{top_of, bearing_index, Bears, BearsAlone}

pub top_more : (ls : List Layer) (i : ℕ) (d : Layer) → i < length ls → top_of ls (i + 1) ≡ top_of ls i + (get_or ls i d).thickness
top_more ls i d h = ap depth (take_more ls i d h) ∙ depth_push (take i ls) (get_or ls i d)

pub top_rises : (ls : List Layer) (m n : ℕ) → m ≤ n → top_of ls m ≤ top_of ls n
top_rises ls m n h = omega (arith, depth_take m (take n ls), ap depth (take-take m n ls h))

pub bears_once : (ls : List Layer) (d i j : ℕ) → Bears ls d i → Bears ls d j → j ≡ i
bears_once ls d i j a b = elim (cases_order j i) [
  | inl e ↦ e
  | inr k ↦ elim k [
    | inl l ↦ absurd (omega (arith, top_rises ls (j + 1) i (omega arith), b.bottom, a.top))
    | inr g ↦ absurd (omega (arith, top_rises ls (i + 1) j (omega arith), a.bottom, b.top))
  ]
]

-- a depth below the bottom of the layer of one index
pub bearing_again : (ls : List Layer) (i at top : ℕ) → i < length ls → top ≤ at → (get_or ls i no_layer).thickness ≤ at - top
    → bearing_index ls at ≡ i + bearing_index (drop i ls) (at - top)
    → bearing_index ls at ≡ i + 1 + bearing_index (drop (i + 1) ls) (at - (top + (get_or ls i no_layer).thickness))
bearing_again ls i at top h k t s =
    let l = get_or ls i no_layer in
    let rest = drop (i + 1) ls in
    let less : at - top - l.thickness ≡ at - (top + l.thickness) = omega arith in
    let step : bearing_index (drop i ls) (at - top) ≡ bearing_index rest (at - top - l.thickness) + 1
    = at_drop_more (λ zs. bearing_index zs (at - top)) ls i no_layer h ∙ cond-false _ _ _ (le-ltb (at - top) l.thickness t) in
    let same = ap (bearing_index rest) less in
    omega arith

-- a depth in the layer of one index
pub bears_here : (ls : List Layer) (i at top : ℕ) → i < length ls → top ≡ top_of ls i → top ≤ at
    → bearing_index ls at ≡ i + bearing_index (drop i ls) (at - top)
    → at - top < (get_or ls i no_layer).thickness
    → BearsAlone ls at (record { index = i; top = top })
bears_here ls i at top h p k s t =
    let l = get_or ls i no_layer in
    let step : bearing_index (drop i ls) (at - top) ≡ 0
    = at_drop_more (λ zs. bearing_index zs (at - top)) ls i no_layer h ∙ cond-true _ _ _ (lt-ltb (at - top) l.thickness t) in
    let more = top_more ls i no_layer h in
    let it : Bears ls at i = record { there = h; top = omega arith; bottom = omega arith } in
    record { bears = it; alone = λ j b. bears_once ls at i j it b; same = omega arith; top = p }
