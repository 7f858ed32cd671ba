-- Laying layers one after the other: what is known where none is refused, and one step on.
use Rattle.std.proofs.Common.{◌≡◌, ℕ, ◌+◌, ◌<◌, ◌≤◌, true, not, leb, List, [], ◌∷◌, length, get_or, take, drop, is_some, Some, None, sym, refl, ap, ◌∙◌, arith}
use Rattle.std.proofs.lemmas.Bool.{and_from, ltb-false, leb-false}
use Rattle.std.proofs.lemmas.List.{length_push, take_more, at_drop_more}
use Rattle.terms.specs.declared.refusal.Refusal.{Refusal}
use Rattle.terms.specs.Limits.{max_layers, max_depth}
use Rattle.terms.specs.Chains.{when, or_else}
use Rattle.terms.proofs.Chained.{or_none, when_none}
use Rattle.ground.specs.declared.layer.Layer.{Layer}
use Rattle.ground.specs.Layers.{depth, sound, fit, layer_flaw}
use Rattle.ground.specs.Edits.{lay_refusal, laid, lay_all_refusal}
use Rattle.ground.proofs.Tables.{depth_push}

-- a layer that may be laid below those above it
pub record Layable (above : List Layer) (l : Layer) : Type 0 where
  pub fits : fit l ≡ true
  pub few : length above < max_layers
  pub shallow : depth above + l.thickness ≤ max_depth

pub layable : (above : List Layer) (l : Layer) → lay_refusal above l ≡ None → Layable above l
layable above l h =
    let p = or_none (layer_flaw l) _ h in
    let q = or_none (when (leb max_layers (length above)) _) _ p.1 in
    record {
      fits = ap (λ o. not (is_some o)) p.0;
      few = leb-false _ _ (when_none _ _ q.0);
      shallow = ltb-false _ _ (when_none _ _ q.1);
    }

-- layers that may all be laid below those above them
pub record AllLayable (above ls : List Layer) : Type 0 where
  pub fits : sound ls ≡ true
  pub few : length above + length ls ≤ max_layers
  pub shallow : depth above + depth ls ≤ max_depth

pub all_layable : (above ls : List Layer) → length above ≤ max_layers → depth above ≤ max_depth → lay_all_refusal above ls ≡ None → AllLayable above ls
all_layable above [] n d h = record { fits = refl; few = omega arith; shallow = omega arith }
all_layable above (l ∷ ls) n d h =
    let p = or_none (lay_refusal above l) _ h in
    let q = layable above l p.0 in
    let more = length_push above l in
    let deeper = depth_push above l in
    let r = all_layable (laid above l) ls (omega arith) (omega arith) p.1 in
    record { fits = and_from _ _ q.fits r.fits; few = omega arith; shallow = omega arith }

pub lay_on : (ls : List Layer) (i : ℕ) (d : Layer) → i < length ls → lay_refusal (take i ls) (get_or ls i d) ≡ None → lay_all_refusal (take i ls) (drop i ls) ≡ lay_all_refusal (take (i + 1) ls) (drop (i + 1) ls)
lay_on ls i d h e =
    at_drop_more (lay_all_refusal (take i ls)) ls i d h
    ∙ ap (λ o. or_else o (lay_all_refusal (laid (take i ls) (get_or ls i d)) (drop (i + 1) ls))) e
    ∙ ap (λ above. lay_all_refusal above (drop (i + 1) ls)) (sym (take_more ls i d h))

pub lay_stops : (ls : List Layer) (i : ℕ) (d : Layer) (r : Refusal) → i < length ls → lay_refusal (take i ls) (get_or ls i d) ≡ Some r → lay_all_refusal (take i ls) (drop i ls) ≡ Some r
lay_stops ls i d r h e =
    at_drop_more (lay_all_refusal (take i ls)) ls i d h
    ∙ ap (λ o. or_else o (lay_all_refusal (laid (take i ls) (get_or ls i d)) (drop (i + 1) ls))) e
