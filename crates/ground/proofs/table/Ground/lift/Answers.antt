use Rattle.std.proofs.Common.{◌-◌, vec_items, vec_len, ap, ◌∙◌, arith}
use Rattle.ground.specs.Layers.{depth, sound}
use Rattle.ground.proofs.Tables.{depth_take, sound_take}
use Rattle.ground.proofs.table.Ground.lift.Goals as goal

pub invariant_of-self : goal.invariant_of-self
invariant_of-self c =
    let old = c.args.self.now in
    let left = c.pop.ensures.rest in
    record {
      few = omega (arith, c.pop.ensures.len);
      room = omega (arith, c.pop.ensures.capacity);
      fit = ap sound left ∙ sound_take _ (vec_items old.layers) old.fit;
      shallow = omega (arith, ap depth left, depth_take (vec_len old.layers - 1) (vec_items old.layers), old.shallow);
    }
