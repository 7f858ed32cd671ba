-- The parts of a shaft with their frictions, a layer at a time.
use Rattle.std.proofs.Common.{◌≡◌, ℕ, ◌-◌, ◌<◌, min, List, [], ◌∷◌, refl, ap, ◌∙◌, ◌⊎◌, inl, inr}
use Rattle.std.proofs.lemmas.Bool.{cond-true, lt-ltb}
use Rattle.ground.specs.declared.layer.Layer.{Layer}
use Rattle.pile.specs.Shaft.{ShaftPart, parts_above}
use Rattle.column.specs.declared.Part.{Part}
use Rattle.shaft.specs.Attached.{attach, attached}

-- the part of a layer down to a depth, with its friction
abbrev pub part_down_to : ℕ → Layer → ℕ → Part
part_down_to d l q = attach (record { height = min l.thickness d; layer = l }) q

pub attached_free : (ss : List ShaftPart) → attached ss [] ≡ []
attached_free [] = refl
attached_free (s ∷ ss) = refl

pub attached_more : (d : ℕ) (l : Layer) (ls : List Layer) (q : ℕ) (qs : List ℕ) → 0 < d
    → attached (parts_above d (l ∷ ls)) (q ∷ qs) ≡ part_down_to d l q ∷ attached (parts_above (d - l.thickness) ls) qs
attached_more d l ls q qs h = ap (λ ss. attached ss (q ∷ qs)) (cond-true _ _ _ (lt-ltb 0 d h))

-- no part or no friction is left
pub attached_end : (ss : List ShaftPart) (qs : List ℕ) → (ss ≡ []) ⊎ (qs ≡ []) → attached ss qs ≡ []
attached_end ss qs (inl a) = ap (λ zs. attached zs qs) a
attached_end ss qs (inr b) = ap (attached ss) b ∙ attached_free ss
