-- A balanced column whose tip has moved at least s stays above the lower march from s, and one whose tip has moved at most s stays
-- below the upper march.
use Rattle.std.proofs.Common.{ℕ, ◌+◌, ◌*◌, ◌/◌, ◌<◌, ◌≤◌, List, [], ◌∷◌, le_trans, mul-le-mul_left, arith}
use Rattle.column.specs.declared.Part.{Part}
use Rattle.column.specs.declared.Node.{Node}
use Rattle.column.specs.Rounding.{ceil}
use Rattle.column.specs.Case.{Case, Sound, shaft_v, shaft_w, skin, tip_v, tip_w}
use Rattle.column.specs.Nodes.{Nodes, end_force}
use Rattle.column.specs.Marches.{climb, furthest, lower_end, lower_march, lower_step, lower_tip, upper_end, upper_force, upper_march, upper_step, upper_tip}
use Rattle.column.specs.Balanced.{SliceBalance, ShaftBalance, Balanced}
use Rattle.column.proofs.Nodewise.{AtLeast, AtMost, Each, Every, every_last}
use Rattle.column.proofs.Rounding.{floor_least, ceil_most, raised_mono, lower_moved, upper_moved, lower_loaded, upper_loaded}

-- what each step of a march keeps holds at each node
along_shaft : (c : Case) (k : ℕ) (R : Node → Node → Type 0) (f : Part → Node → Node) → ((g : Part) (a n m : Node) → R a n → SliceBalance c k g n m → R (f g a) m)
    → (a n : Node) (gs : List Part) (ms : List Node) → R a n → ShaftBalance c k n gs ms → Each R (climb f a gs) ms
along_shaft c k R f next a n [] [] h b = tt
along_shaft c k R f next a n [] (m ∷ ms) h b = absurd b
along_shaft c k R f next a n (g ∷ gs) [] h b = absurd b
along_shaft c k R f next a n (g ∷ gs) (m ∷ ms) h b =
    let here = next g a n m h b.0 in
    (here, along_shaft c k R f next (f g a) m gs ms here b.1)

module _ (c : Case) (ok : Sound c) where
  pub shaft_v_mono : (g : Part) (s t : ℕ) → s ≤ t → shaft_v c g s ≤ shaft_v c g t
  shaft_v_mono g s t h = ok.shaft.rising g.soil g.modulus g.friction c.body.diameter s t h

  pub shaft_w_mono : (g : Part) (s t : ℕ) → s ≤ t → shaft_w c g s ≤ shaft_w c g t
  shaft_w_mono g s t h = raised_mono (shaft_v c g s) (shaft_v c g t) g.friction (shaft_v_mono g s t h)

  pub tip_v_mono : (s t : ℕ) → s ≤ t → tip_v c s ≤ tip_v c t
  tip_v_mono s t h = ok.tip.rising c.body.tip_soil c.body.tip_modulus c.body.tip_resistance c.body.diameter s t h

  pub tip_w_mono : (s t : ℕ) → s ≤ t → tip_w c s ≤ tip_w c t
  tip_w_mono s t h = raised_mono (tip_v c s) (tip_v c t) c.body.tip_resistance (tip_v_mono s t h)

  module _ (k : ℕ) (pos : 0 < k) where
    pub lower_next : (g : Part) (low n m : Node) → AtLeast k low n → SliceBalance c k g n m → AtLeast k (lower_step c g low) m
    lower_next g low n m h b = record {
      displacement = lower_moved k c.body.stiffness g.height low.displacement low.force n.displacement n.force m.displacement ok.stiff h.displacement h.force b.shortening_least;
      force = lower_loaded k (skin c g) (shaft_v c g low.displacement) (shaft_v c g (n.displacement / k)) low.force n.force m.force h.force
          (shaft_v_mono g low.displacement (n.displacement / k) (floor_least k low.displacement n.displacement pos h.displacement)) b.force_least;
    }

    upper_next : (g : Part) (high n m : Node) → AtMost k high n → SliceBalance c k g n m → AtMost k (upper_step c g high) m
    upper_next g high n m h b =
        let S = c.body.stiffness in
        let capped : shaft_w c g (ceil m.displacement k) ≤ g.friction = omega arith in
        let most : m.force ≤ k * (high.force + skin c g * g.friction) =
        upper_loaded k (skin c g) g.friction (shaft_w c g (ceil m.displacement k)) high.force n.force m.force h.force capped b.force_most in
        let reach : m.displacement ≤ k * furthest c g high =
        upper_moved k S g.height high.displacement (high.force + skin c g * g.friction) n.displacement m.force m.displacement ok.stiff h.displacement most b.shortening_most in
        let force : m.force ≤ k * upper_force c g high =
        upper_loaded k (skin c g) (shaft_w c g (furthest c g high)) (shaft_w c g (ceil m.displacement k)) high.force n.force m.force h.force
        (shaft_w_mono g (ceil m.displacement k) (furthest c g high) (ceil_most k (furthest c g high) m.displacement pos reach)) b.force_most in
        record {
          displacement = upper_moved k S g.height high.displacement (upper_force c g high) n.displacement m.force m.displacement ok.stiff h.displacement force b.shortening_most;
          force = force;
        }

  -- the two dominances
  pub above_lower : (k s : ℕ) (x : Nodes) → Balanced c k x → k * s ≤ x.tip.displacement → Every (AtLeast k) (lower_march c s) x
  above_lower k s x b h =
      let d = x.tip.displacement in
      let at : AtLeast k (lower_tip c s) x.tip = record {
        displacement = h;
        force = le_trans (mul-le-mul_left k (mul-le-mul_left c.body.tip_area (tip_v_mono s (d / k) (floor_least k s d b.scale h)))) b.tip.at_least;
      } in
      (at, along_shaft c k (AtLeast k) (lower_step c) (lower_next k b.scale) (lower_tip c s) x.tip c.slices x.above at b.shaft)

  pub below_upper : (k s : ℕ) (x : Nodes) → Balanced c k x → x.tip.displacement ≤ k * s → Every (AtMost k) (upper_march c s) x
  below_upper k s x b h =
      let d = x.tip.displacement in
      let at : AtMost k (upper_tip c s) x.tip = record {
        displacement = h;
        force = le_trans b.tip.at_most (mul-le-mul_left k (mul-le-mul_left c.body.tip_area (tip_w_mono (ceil d k) s (ceil_most k s d b.scale h))));
      } in
      (at, along_shaft c k (AtMost k) (upper_step c) (upper_next k b.scale) (upper_tip c s) x.tip c.slices x.above at b.shaft)

  -- .. at the head
  pub ends_above : (k s : ℕ) (x : Nodes) → Balanced c k x → k * s ≤ x.tip.displacement → k * lower_end c s ≤ end_force x
  ends_above k s x b h = (every_last (AtLeast k) (lower_march c s) x (above_lower k s x b h)).force

  pub ends_below : (k s : ℕ) (x : Nodes) → Balanced c k x → x.tip.displacement ≤ k * s → end_force x ≤ k * upper_end c s
  ends_below k s x b h = (every_last (AtMost k) (upper_march c s) x (below_upper k s x b h)).force
