use Rattle.std.proofs.Common.{◌≡◌, [], vec_items, IsOk, length, ap, ◌∙◌, arith}
use Rattle.terms.proofs.Chained.{granted}
use Rattle.ground.specs.Layers.{depth, sound}
use Rattle.ground.proofs.Laying.{all_layable}
use Rattle.ground.proofs.table.Ground.replace.Goals as goal

pub unwrap-requires : goal.unwrap-requires
unwrap-requires c =
    let all = all_layable [] c.args.layers.now (omega arith) (omega arith) (granted _ c.in_ok-admit_all.ensures) in
    c.extend_from_slice.ensures.succeeds (omega (arith, all.few, c.args.self.now.room, c.clear.ensures.len, c.clear.ensures.capacity))

pub invariant_of-self : goal.invariant_of-self
invariant_of-self c =
    let all = all_layable [] c.args.layers.now (omega arith) (omega arith) (granted _ c.in_ok-admit_all.ensures) in
    let ok : IsOk c.extend_from_slice.result = c.extend_from_slice.ensures.succeeds (omega (arith, all.few, c.args.self.now.room, c.clear.ensures.len, c.clear.ensures.capacity)) in
    let left : vec_items c.extend_from_slice.new.self ≡ c.args.layers.now = grind (arith, ok, c.extend_from_slice.ensures.items, c.clear.ensures.items) in
    record {
      few = omega (arith, all.few, ap length left);
      room = omega (arith, c.extend_from_slice.ensures.capacity, c.clear.ensures.capacity, c.args.self.now.room);
      fit = ap sound left ∙ all.fits;
      shallow = omega (arith, ap depth left, all.shallow);
    }
