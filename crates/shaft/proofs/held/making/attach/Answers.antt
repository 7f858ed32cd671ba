use Rattle.std.proofs.Common.{◌≡◌, ◌++◌, [], ◌⊎◌, inl, inr, sym, ap, ◌∙◌}
use Rattle.std.specs.Iterator.Adapters.{zip_first, zip_second}
use Rattle.std.specs.Slice.Iter.{iter_rest}
use Rattle.std.proofs.lemmas.List.{append-nil, nil_from_length}
use Rattle.pile.specs.Parts.{parts_left}
use Rattle.shaft.proofs.Attaching.{attached_end}
use Rattle.shaft.proofs.held.making.attach.Goals as goal

pub returns : goal.returns
returns c =
    let ps = c.loop-part.parts.items in
    let last : (parts_left (zip_first c.loop-part.part-iterator) ≡ []) ⊎ (iter_rest (zip_second c.loop-part.part-iterator) ≡ []) =
    elim c.in-None.ensures.steps [ inl a ↦ inl a.1.0 | inr b ↦ inr (nil_from_length _ b.1.0) ]
    in
    sym (append-nil ps) ∙ sym (ap (λ zs. ps ++ zs) (attached_end _ _ last)) ∙ c.loop-part.invariant.1
