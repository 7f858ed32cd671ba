use Rattle.std.proofs.Common.{◌≡◌, None, vec_items, sym, ap, ◌∙◌, arith, rules}
use Rattle.terms.proofs.Chained.{granted}
use Rattle.ground.specs.Layers.{depth, sound}
use Rattle.ground.specs.Edits.{lay_refusal}
use Rattle.ground.proofs.Tables.{depth_push, sound_push}
use Rattle.ground.proofs.Laying.{layable}
use Rattle.ground.proofs.table.Ground.lay.Goals as goal

pub invariant_of-self : goal.invariant_of-self
invariant_of-self c =
    let old = c.args.self.now in
    let ls = vec_items old.layers in
    let clear : lay_refusal ls c.args.layer ≡ None = ap (λ above. lay_refusal above c.args.layer) (sym c.layers.ensures.value) ∙ granted _ c.in_ok-admit.ensures in
    let here = layable ls c.args.layer clear in
    let left = c.push_reserved.ensures.items in
    record {
      few = search rules;
      room = search rules;
      fit = ap sound left ∙ sound_push ls c.args.layer old.fit here.fits;
      shallow = omega (arith, ap depth left, depth_push ls c.args.layer, here.shallow);
    }
