-- A tip pushed further never lowers a march.
use Rattle.std.proofs.Common.{◌+◌, ◌*◌, ◌≤◌, List, [], ◌∷◌, mul-le-mul_right, mul-le-mul_left, arith}
use Rattle.column.specs.declared.Part.{Part}
use Rattle.column.specs.declared.Node.{Node}
use Rattle.column.specs.Case.{Case, Sound, skin}
use Rattle.column.specs.Nodes.{last}
use Rattle.column.specs.Marches.{climb, furthest, lower_step, lower_tip, upper_force, upper_step, upper_tip}
use Rattle.column.specs.Bracket.{EndsRise}
use Rattle.column.proofs.Rounding.{floor_mono, ceil_mono}
use Rattle.column.proofs.Dominance.{shaft_v_mono, shaft_w_mono, tip_v_mono, tip_w_mono}

record Up (n m : Node) : Type 0 where
  displacement : n.displacement ≤ m.displacement
  force : n.force ≤ m.force

-- where no step lowers a node, no climb lowers the head
last_up : (f : Part → Node → Node) → ((g : Part) (n m : Node) → Up n m → Up (f g n) (f g m)) → (gs : List Part) (n m : Node) → Up n m → Up (last n (climb f n gs)) (last m (climb f m gs))
last_up f up [] n m h = h
last_up f up (g ∷ gs) n m h = last_up f up gs (f g n) (f g m) (up g n m h)

module _ (c : Case) (ok : Sound c) where
  lower_up : (g : Part) (n m : Node) → Up n m → Up (lower_step c g n) (lower_step c g m)
  lower_up g n m h = record {
    displacement = omega (arith, h.displacement, floor_mono c.body.stiffness (n.force * g.height) (m.force * g.height) ok.stiff (mul-le-mul_right g.height h.force));
    force = omega (arith, h.force, mul-le-mul_left (skin c g) (shaft_v_mono c ok g n.displacement m.displacement h.displacement));
  }

  upper_up : (g : Part) (n m : Node) → Up n m → Up (upper_step c g n) (upper_step c g m)
  upper_up g n m h =
      let S = c.body.stiffness in
      let Q = skin c g * g.friction in
      let more : n.force + Q ≤ m.force + Q = omega (arith, h.force) in
      let reach : furthest c g n ≤ furthest c g m =
      omega (arith, h.displacement, ceil_mono S ((n.force + Q) * g.height) ((m.force + Q) * g.height) ok.stiff (mul-le-mul_right g.height more)) in
      let force : upper_force c g n ≤ upper_force c g m =
      omega (arith, h.force, mul-le-mul_left (skin c g) (shaft_w_mono c ok g (furthest c g n) (furthest c g m) reach)) in
      record {
        displacement = omega (arith, h.displacement, ceil_mono S (upper_force c g n * g.height) (upper_force c g m * g.height) ok.stiff (mul-le-mul_right g.height force));
        force = force;
      }

pub ends_rise : EndsRise
ends_rise c ok s t h = (
  (last_up (lower_step c) (lower_up c ok) c.slices (lower_tip c s) (lower_tip c t) (record { displacement = h; force = mul-le-mul_left c.body.tip_area (tip_v_mono c ok s t h) })).force,
  (last_up (upper_step c) (upper_up c ok) c.slices (upper_tip c s) (upper_tip c t) (record { displacement = h; force = mul-le-mul_left c.body.tip_area (tip_w_mono c ok s t h) })).force,
)
