use Rattle.std.proofs.Common.{◌≡◌, ◌≤◌, [], ◌⊎◌, ap, inl, inr, mul-le-mul, arith}
use Rattle.std.specs.Iterator.Adapters.{zip_first, zip_second}
use Rattle.std.specs.Slice.Iter.{iter_rest}
use Rattle.std.proofs.lemmas.List.{nil_from_length}
use Rattle.pile.specs.Footing.{layers_under, numbers_on}
use Rattle.pile.specs.FrictionList.{friction_list}
use Rattle.pile.specs.Parts.{parts_left}
use Rattle.pile.specs.Shaft.{parts_above}
use Rattle.pile.proofs.Bounds.{pile_bounds}
use Rattle.pile.proofs.Shafts.{heights, heights_fill, shaft_turn, shaft_end, shaft_most}
use Rattle.pile.proofs.footing.Footing.along_shaft.Goals as goal

pub loop-part-init : goal.loop-part-init
loop-part-init c =
    let n = numbers_on c.args.self.now in
    let start : parts_left (zip_first c.into_iter-part-iterator.result) ≡ parts_above n.length (layers_under c.args.self.now) = cc in
    let given : iter_rest (zip_second c.into_iter-part-iterator.result) ≡ friction_list c.args.frictions.now = cc in
    rw (start, given) (omega (arith, heights_fill n.length (layers_under c.args.self.now)), omega arith)

pub overflow_mul-sum : goal.overflow_mul-sum
overflow_mul-sum c =
    let n = numbers_on c.args.self.now in
    let bounds = pile_bounds n c.args.self.now.pile.now.fit in
    let deep : c.in-Some.part.height ≤ 25000 = omega (arith, ap heights c.in-Some.ensures.steps.0, c.loop-part.invariant.0, bounds.length.1) in
    rw c.numbers-numbers.ensures.value (omega (arith, mul-le-mul bounds.perimeter.1 deep))

pub overflow_mul-sum-in-loop-part : goal.overflow_mul-sum-in-loop-part
overflow_mul-sum-in-loop-part c =
    let n = numbers_on c.args.self.now in
    let bounds = pile_bounds n c.args.self.now.pile.now.fit in
    let turn = shaft_turn n.perimeter c.loop-part.sum _ c.in-Some.part c.in-Some.friction.now _ _ _ _ c.in-Some.ensures.steps.0 c.in-Some.ensures.steps.1 c.loop-part.invariant.1 in
    rw c.numbers-numbers.ensures.value (omega (arith, turn, shaft_most n.perimeter n.length (layers_under c.args.self.now) (friction_list c.args.frictions.now) bounds.perimeter.1 bounds.length.1 c.args.frictions.now.moderate))

pub overflow_add-sum : goal.overflow_add-sum
overflow_add-sum c =
    let n = numbers_on c.args.self.now in
    let bounds = pile_bounds n c.args.self.now.pile.now.fit in
    let turn = shaft_turn n.perimeter c.loop-part.sum _ c.in-Some.part c.in-Some.friction.now _ _ _ _ c.in-Some.ensures.steps.0 c.in-Some.ensures.steps.1 c.loop-part.invariant.1 in
    rw c.numbers-numbers.ensures.value (omega (arith, turn, shaft_most n.perimeter n.length (layers_under c.args.self.now) (friction_list c.args.frictions.now) bounds.perimeter.1 bounds.length.1 c.args.frictions.now.moderate))

pub loop-part-preserved : goal.loop-part-preserved
loop-part-preserved c =
    let n = numbers_on c.args.self.now in
    let steps = c.in-Some.ensures.steps in
    rw c.numbers-numbers.ensures.value (
      omega (arith, ap heights steps.0, c.loop-part.invariant.0),
      shaft_turn n.perimeter c.loop-part.sum _ c.in-Some.part c.in-Some.friction.now _ _ _ _ steps.0 steps.1 c.loop-part.invariant.1,
    )

pub returns-clause-value : goal.returns-clause-value
returns-clause-value c =
    let last : (parts_left (zip_first c.loop-part.part-iterator) ≡ []) ⊎ (iter_rest (zip_second c.loop-part.part-iterator) ≡ []) =
    elim c.in-None.ensures.steps [ inl a ↦ inl a.1.0 | inr b ↦ inr (nil_from_length _ b.1.0) ]
    in
    omega (arith, shaft_end (numbers_on c.args.self.now).perimeter _ _ last, c.loop-part.invariant.1)

pub returns-clause-small : goal.returns-clause-small
returns-clause-small c =
    let n = numbers_on c.args.self.now in
    let bounds = pile_bounds n c.args.self.now.pile.now.fit in
    omega (arith, c.loop-part.invariant.1, shaft_most n.perimeter n.length (layers_under c.args.self.now) (friction_list c.args.frictions.now) bounds.perimeter.1 bounds.length.1 c.args.frictions.now.moderate)
