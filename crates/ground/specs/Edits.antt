-- When a change of the layers is refused, and what it makes of them. Layers stand from the surface down and are counted from 0.
use Rattle.std.specs.Prelude.{ℕ, ◌+◌, ◌-◌, List, [], ◌∷◌, ◌++◌, length, take, None, Option, nat_le, nat_lt, slice_index_or, slice_set}
use Rattle.terms.specs.declared.refusal.Refusal.{Refusal}
use Rattle.terms.specs.declared.refusal.Refusal.TheVariants.{LayerNumber, NoLayerToAmend, NoLayerToLift, SurplusLayer, DeepGround}
use Rattle.terms.specs.Limits.{outside, pressure_limits, modulus_limits, max_layers, max_depth}
use Rattle.terms.specs.Chains.{when, or_else}
use Rattle.ground.specs.declared.layer.Layer.{Layer}
use Rattle.ground.specs.Layers.{layer_flaw, depth}

-- lay: a number outside its limits, a layer too many, a ground too deep
abbrev pub lay_refusal : List Layer → Layer → Option Refusal
lay_refusal ls l =
    or_else (layer_flaw l)
    (or_else (when (nat_le max_layers (length ls)) (SurplusLayer (length ls)))
    (when (nat_lt max_depth (depth ls + l.thickness)) (DeepGround (length ls))))

-- the new layer is the lowest
abbrev pub laid : List Layer → Layer → List Layer
laid ls l = ls ++ l ∷ []

-- amend: no layer of that index, a pressure or a modulus outside its limits
abbrev pub amend_refusal : List Layer → ℕ → ℕ → ℕ → Option Refusal
amend_refusal ls i p m =
    or_else (when (nat_le (length ls) i) NoLayerToAmend)
    (or_else (when (outside pressure_limits p) (LayerNumber 2))
    (when (outside modulus_limits m) (LayerNumber 3)))

abbrev pub no_layer : Layer
no_layer = record { soil = 0; thickness = 0; pressure = 0; modulus = 0; ceiling = 0 }

-- the layer with another pressure and modulus, and nothing else changed
abbrev pub revised : Layer → ℕ → ℕ → Layer
revised l p m = record { soil = l.soil; thickness = l.thickness; pressure = p; modulus = m; ceiling = l.ceiling }

abbrev pub amended : List Layer → ℕ → ℕ → ℕ → List Layer
amended ls i p m = slice_set ls i (revised (slice_index_or ls i no_layer) p m)

-- lift: there is no layer; the lowest is removed
abbrev pub lift_refusal : List Layer → Option Refusal
lift_refusal ls = when (nat_le (length ls) 0) NoLayerToLift

abbrev pub lifted : List Layer → List Layer
lifted ls = take (length ls - 1) ls

-- the first refusal where these layers are laid, one after the other, below those
abbrev pub lay_all_refusal : List Layer → List Layer → Option Refusal
lay_all_refusal below [] = None
lay_all_refusal below (l ∷ ls) = or_else (lay_refusal below l) (lay_all_refusal (laid below l) ls)

-- replace: what laying them all on no layers would refuse
abbrev pub replace_refusal : List Layer → Option Refusal
replace_refusal = lay_all_refusal []
