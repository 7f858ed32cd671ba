-- What a layer may be, and how deep layers reach (mm).
use Rattle.std.specs.Prelude.{ℕ, ◌+◌, Bool, true, not, ◌&&◌, List, [], ◌∷◌, is_some, Option}
use Rattle.terms.specs.declared.refusal.Refusal.{Refusal}
use Rattle.terms.specs.declared.refusal.Refusal.TheVariants.{LayerNumber}
use Rattle.terms.specs.Limits.{outside, soil_limits, thickness_limits, pressure_limits, modulus_limits, ceiling_limits}
use Rattle.terms.specs.Chains.{when, or_else}
use Rattle.ground.specs.declared.layer.Layer.{Layer}

-- the first number outside its limits, by its field
abbrev pub layer_flaw : Layer → Option Refusal
layer_flaw l =
    or_else (when (outside soil_limits l.soil) (LayerNumber 1))
    (or_else (when (outside thickness_limits l.thickness) (LayerNumber 2))
    (or_else (when (outside pressure_limits l.pressure) (LayerNumber 3))
    (or_else (when (outside modulus_limits l.modulus) (LayerNumber 4))
    (when (outside ceiling_limits l.ceiling) (LayerNumber 5)))))

-- every number is inside its limits
abbrev pub fit : Layer → Bool
fit l = not (is_some (layer_flaw l))

abbrev pub sound : List Layer → Bool
sound [] = true
sound (l ∷ ls) = fit l && sound ls

-- from the surface to the bottom of the last layer
abbrev pub depth : List Layer → ℕ
depth [] = 0
depth (l ∷ ls) = l.thickness + depth ls
