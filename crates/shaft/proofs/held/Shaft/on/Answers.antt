use Rattle.std.proofs.Common.{take, ◌∙◌, arith}
use Rattle.pile.specs.Footing.{layers_under, numbers_on}
use Rattle.pile.specs.FrictionList.{friction_list}
use Rattle.pile.proofs.Bounds.{pile_bounds}
use Rattle.shaft.proofs.Upward.{contacts_up, height_up, resistance_up}
use Rattle.shaft.proofs.held.Shaft.on.Goals as goal

pub invariant_of-result : goal.invariant_of-result
invariant_of-result c =
    let f = c.args.footing.now in
    let ls = layers_under f in
    let n = numbers_on f in
    let qs = friction_list c.args.frictions.now in
    let body = c.body_on-body.ensures in
    let laid = c.laid_out-count.ensures in
    let parts = take c.laid_out-count.result.1 c.laid_out-count.result.0 in
    let told = laid.value ∙ c.attach_up.ensures in
    let bounds = pile_bounds n f.pile.now.fit in
    record {
      whole = laid.whole;
      few = laid.few;
      bodied = body.bodied;
      borne = body.borne;
      met = contacts_up ls n qs parts told f.ground.now.fit c.args.frictions.now.moderate;
      stepped = rw c.numbers-numbers.ensures.value bounds.step;
      deep = omega (arith, height_up ls n qs parts told, bounds.length.1);
      firm = omega (arith, resistance_up ls n qs parts told c.body_on-body.result body.value, c.resistance.ensures.value, c.if-resistance-body.false);
    }
