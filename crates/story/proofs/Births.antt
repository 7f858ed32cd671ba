-- Every study has an earlier life: its layers laid, then its pile driven.
use Rattle.std.proofs.Common.{◌≡◌, ◌+◌, ◌<◌, ◌≤◌, true, ltb, leb, List, [], ◌∷◌, ◌++◌, map, length, Some, None, Option, sym, ap, ◌∙◌, arith}
use Rattle.std.proofs.lemmas.Bool.{and_parts}
use Rattle.std.proofs.lemmas.List.{append-nil, append_assoc, length_push}
use Rattle.std.specs.Option.{option_map}
use Rattle.terms.specs.Limits.{max_layers, max_depth}
use Rattle.terms.proofs.Chained.{none_of, or_free, when_free}
use Rattle.ground.specs.declared.layer.Layer.{Layer}
use Rattle.ground.specs.Table.{strata}
use Rattle.ground.specs.Layers.{depth, sound, fit, layer_flaw}
use Rattle.ground.specs.Edits.{lay_refusal}
use Rattle.ground.proofs.Tables.{depth_push}
use Rattle.pile.specs.declared.driven.Pile.{Pile}
use Rattle.pile.specs.Numbers.{pile_flaw}
use Rattle.pile.specs.Driven.{numbers_of}
use Rattle.study.specs.declared.holder.Study.{Study}
use Rattle.study.specs.Sites.{Site, Plain, bare, changed}
use Rattle.study.specs.Sites.Plain.{Lay, Drive}
use Rattle.study.specs.Views.{site_of}
use Rattle.story.specs.Places.{unless, after, left_by}
use Rattle.story.proofs.Splits.{left_by_append}

lay_free : (ls : List Layer) (l : Layer) → fit l ≡ true → length ls < max_layers → depth ls + l.thickness ≤ max_depth → lay_refusal ls l ≡ None
lay_free ls l e h d = or_free _ _ (none_of (layer_flaw l) e) (or_free _ _ (when_free (leb max_layers (length ls)) _ (grind arith)) (when_free (ltb max_depth (depth ls + l.thickness)) _ (grind arith)))

laid_all : (rest done : List Layer) → sound rest ≡ true → length done + length rest ≤ max_layers → depth done + depth rest ≤ max_depth
    → left_by (record { layers = done; pile = None }) (map Lay rest) ≡ record { layers = done ++ rest; pile = None }
laid_all [] done s h d = ap (λ ls. record { layers = ls; pile = None }) (sym (append-nil done))
laid_all (l ∷ rest) done s h d =
    let p = and_parts (fit l) (sound rest) s in
    let at : Site = record { layers = done; pile = None } in
    ap (λ o. left_by (unless o (changed at (Lay l)) at) (map Lay rest)) (lay_free done l p.0 (omega arith) (omega arith))
    ∙ laid_all rest (done ++ l ∷ []) p.1 (omega (arith, length_push done l)) (omega (arith, depth_push done l))
    ∙ ap (λ ls. record { layers = ls; pile = None }) (append_assoc done (l ∷ []) rest)

driven : (ls : List Layer) (o : Option Pile) (lays : List Plain) → left_by bare lays ≡ record { layers = ls; pile = None }
    → (before : List Plain) × (left_by bare before ≡ record { layers = ls; pile = option_map numbers_of o })
driven ls None lays h = (lays, h)
driven ls (Some p) lays h =
    let at : Site = record { layers = ls; pile = None } in
    let call = Drive (numbers_of p) in
    (lays ++ call ∷ [], left_by_append bare lays (call ∷ []) ∙ ap (λ s. after s call) h ∙ ap (λ o. unless o (changed at call) at) (none_of (pile_flaw (numbers_of p)) p.fit))

pub born : {R L : Type 0} (s : Study R L) → (before : List Plain) × (left_by bare before ≡ site_of s)
born s =
    let ls = strata s.ground in
    driven ls s.pile (map Lay ls) (laid_all ls [] s.ground.fit (omega arith) (omega arith))
