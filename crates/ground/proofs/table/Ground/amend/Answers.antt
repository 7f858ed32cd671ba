use Rattle.std.proofs.Common.{◌≡◌, ◌<◌, true, length, get_or, vec_items, ap, ◌∙◌, arith, rules}
use Rattle.ground.specs.Layers.{fit}
use Rattle.ground.specs.Edits.{revised}
use Rattle.ground.proofs.Tables.{depth_set, sound_set, sound_at, fit_revised}
use Rattle.ground.proofs.table.Ground.amend.Goals as goal

pub invariant_of-self-2 : goal.invariant_of-self-2
invariant_of-self-2 c =
    let before = c.args.self.now in
    let ls = vec_items before.layers in
    let old = c.in_ok-layer.layer.now in
    let i = c.args.amendment.index in
    let inside : i < length ls = search rules in
    let here : old ≡ get_or ls i old = search rules in
    let was : fit old ≡ true = ap fit here ∙ sound_at ls i old inside before.fit in
    record {
      few = search rules;
      room = search rules;
      fit = sound_set ls i _ before.fit (fit_revised old c.args.amendment.pressure c.args.amendment.modulus was (search rules) (search rules));
      shallow = omega (arith, depth_set ls i (revised old c.args.amendment.pressure c.args.amendment.modulus) old (ap (λ l. l.thickness) here), before.shallow);
    }
