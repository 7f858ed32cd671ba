-- The balanced column that carries a load. Its curves are drawn straight between whole displacements; two places below, one that ends
-- with at most the load and one with at least it, are drawn together until no whole displacement parts them at any node.
use Rattle.std.proofs.Common.{◌≡◌, ℕ, zero, suc, ◌+◌, ◌-◌, ◌*◌, ◌/◌, ◌<◌, ◌≤◌, List, [], ◌∷◌, refl, ap, ◌∙◌, subst, le_trans, le_refl, mul-le-mul_right, mul-le-mul_left, mul-lt-mul_of_pos_right, mul-pos, div-mul-le_self, arith}
use native.Mathlib.Nat.{le_of_mul-le-mul_left}
use native.Mathlib.Decide.{dec_le}
use Rattle.column.specs.declared.Part.{Part}
use Rattle.column.specs.declared.Node.{Node}
use Rattle.column.specs.Rounding.{ceil}
use Rattle.column.specs.Case.{Case, Sound, shaft_v, shaft_w, skin, tip_v, tip_w}
use Rattle.column.specs.Nodes.{last}
use Rattle.column.specs.Marches.{climb, lower_step, lower_tip}
use Rattle.column.specs.Balanced.{TipBalance, SliceBalance, ShaftBalance}
use Rattle.column.specs.Tips.{IsUpperTip}
use Rattle.column.specs.Bracket.{CarriesExactly}
use Rattle.column.proofs.Rounding.{floor_least, ceil_most}
use Rattle.column.proofs.Dominance.{shaft_v_mono, tip_v_mono}
use Rattle.column.proofs.Straight.{Cell, between, along, in_own, same, least, most, linear, rising, starts, ends, cells, at_whole, at_next}

-- a node with its scale
pub record Place : Type 0 where
  pub scale : ℕ
  pub moved : ℕ
  pub force : ℕ

abbrev mix : ℕ → ℕ → Place → Place → Place
mix α β y z = record { scale = α * y.scale + β * z.scale; moved = α * y.moved + β * z.moved; force = α * y.force + β * z.force }

abbrev In : Place → ℕ → Type 0
In y m = Cell y.scale y.moved m

-- z has moved at least as far as y, and carries at least as much
record Behind (y z : Place) : Type 0 where
  moved : y.moved * z.scale ≤ z.moved * y.scale
  force : y.force * z.scale ≤ z.force * y.scale

meets : (k l N M F α β : ℕ) → M ≡ F * l + α → F * k ≡ N + β → α * N + β * M ≡ F * (α * k + β * l)
meets k l N M F α β p r = omega (arith, ap (λ (x : ℕ). β * x) p, ap (λ (x : ℕ). α * x) r)

parts : (k d l e m p b : ℕ) → e ≡ l * (m + 1) + p → k * (m + 1) ≡ d + b → p * d + b * e ≡ (p * k + b * l) * (m + 1)
parts k d l e m p b r t = omega (arith, ap (λ (x : ℕ). b * x) r, ap (λ (x : ℕ). p * x) t)

reached : (m : ℕ) (y z : Place) → In y m → 0 < z.scale → Behind y z → z.moved ≤ z.scale * (m + 1) → In z m
reached m y z i pos b near = record {
  scale = pos;
  least = le_of_mul-le-mul_left {k = y.scale} (omega (arith, b.moved, mul-le-mul_right z.scale i.least)) i.scale;
  most = near;
}

behind_left : (p b : ℕ) (y z : Place) → Behind y z → Behind y (mix p b y z)
behind_left p b y z h = record { moved = omega (arith, mul-le-mul_left b h.moved); force = omega (arith, mul-le-mul_left b h.force) }

behind_right : (p b : ℕ) (y z : Place) → Behind y z → Behind (mix p b y z) z
behind_right p b y z h = record { moved = omega (arith, mul-le-mul_left p h.moved); force = omega (arith, mul-le-mul_left p h.force) }

module _ (c : Case) where
  abbrev S : ℕ
  S = c.body.stiffness

  -- over a slice, where the shaft carries u in all
  abbrev over : Part → ℕ → Place → Place
  over g u y = record { scale = S * y.scale; moved = S * y.moved + y.force * g.height; force = S * (y.force + skin c g * u) }

  abbrev on : Part → Place → Place
  on g y = over g (along (shaft_v c g) y.scale y.moved) y

  abbrev on_in : ℕ → Part → Place → Place
  on_in m g y = over g (between (shaft_v c g) y.scale y.moved m) y

  abbrev end : Place → List Part → Place
  end y [] = y
  end y (g ∷ gs) = end (on g y) gs

  module _ (F : ℕ) where
    abbrev Low : List Part → Place → Type 0
    Low gs y = (end y gs).force ≤ F * (end y gs).scale

    abbrev High : List Part → Place → Type 0
    High gs y = F * (end y gs).scale ≤ (end y gs).force

    -- a column above a place between y and z, which carries F
    record Hit (gs : List Part) (y z : Place) : Type 0 where
      α : ℕ
      β : ℕ
      scale : ℕ
      node : Node
      above : List Node
      positive : 0 < scale
      scale_is : scale ≡ α * y.scale + β * z.scale
      moved_is : node.displacement ≡ α * y.moved + β * z.moved
      force_is : node.force ≡ α * y.force + β * z.force
      shaft : ShaftBalance c scale node gs above
      head : (last node above).force ≡ F * scale

    abbrev Solver : List Part → Type 0
    Solver gs = (m : ℕ) (y z : Place) → In y m → In z m → Behind y z → Low gs y → High gs z → Hit gs y z

    -- where no slice is left
    base : Solver []
    base m y z iy iz b low high = elim (dec_le (F * y.scale) y.force) [
      | yes h ↦ record {
        α = 1;
        β = 0;
        scale = y.scale;
        node = record { displacement = y.moved; force = y.force };
        above = [];
        positive = iy.scale;
        scale_is = omega arith;
        moved_is = omega arith;
        force_is = omega arith;
        shaft = tt;
        head = omega arith;
      }
      | no h ↦
          (let α = z.force - F * z.scale in
          let β = F * y.scale - y.force in
          let some : 0 < β = omega arith in
          let x = mix α β y z in
          record {
            α = α;
            β = β;
            scale = x.scale;
            node = record { displacement = x.moved; force = x.force };
            above = [];
            positive = omega (arith, mul-pos some iz.scale);
            scale_is = refl;
            moved_is = refl;
            force_is = refl;
            shaft = tt;
            head = meets y.scale z.scale y.force z.force F α β (omega arith) (omega arith);
          })
    ]

    -- what is between two places that lie between y and z is between y and z
    again : {gs : List Part} {u w y z : Place} (h : Hit gs u w) (α β : ℕ) → h.α * u.scale + h.β * w.scale ≡ α * y.scale + β * z.scale →
        h.α * u.moved + h.β * w.moved ≡ α * y.moved + β * z.moved → h.α * u.force + h.β * w.force ≡ α * y.force + β * z.force → Hit gs y z
    again h α β scale moved force = record {
      α = α;
      β = β;
      scale = h.scale;
      node = h.node;
      above = h.above;
      positive = h.positive;
      scale_is = h.scale_is ∙ scale;
      moved_is = h.moved_is ∙ moved;
      force_is = h.force_is ∙ force;
      shaft = h.shaft;
      head = h.head;
    }

    from_left : (gs : List Part) (p q : ℕ) (y z : Place) → Hit gs y (mix p q y z) → Hit gs y z
    from_left gs p q y z h = again h (h.α + h.β * p) (h.β * q) (omega arith) (omega arith) (omega arith)

    from_right : (gs : List Part) (p q : ℕ) (y z : Place) → Hit gs (mix p q y z) z → Hit gs y z
    from_right gs p q y z h = again h (h.α * p) (h.α * q + h.β) (omega arith) (omega arith) (omega arith)

    -- draws y and z together until they lie in one cell; z is at most f cells further than y
    split : (gs : List Part) → Solver gs → (f m : ℕ) (y z : Place) → In y m → 0 < z.scale → z.moved ≤ z.scale * (m + 1 + f) →
        Behind y z → Low gs y → High gs z → Hit gs y z
    split gs solve zero m y z iy pos far b low high = solve m y z iy (reached m y z iy pos b (omega arith)) b low high
    split gs solve (suc f) m y z iy pos far b low high = elim (dec_le z.moved (z.scale * (m + 1))) [
      | yes near ↦ solve m y z iy (reached m y z iy pos b near) b low high
      | no past ↦
          (let p = z.moved - z.scale * (m + 1) in
          let q = y.scale * (m + 1) - y.moved in
          let some : 0 < p = omega arith in
          let x = mix p q y z in
          let whole : x.moved ≡ x.scale * (m + 1) =
          parts y.scale y.moved z.scale z.moved m p q (omega arith) (omega (arith, iy.most)) in
          let x_pos : 0 < x.scale = omega (arith, mul-pos some iy.scale) in
          elim (dec_le (end x gs).force (F * (end x gs).scale)) [
            | yes light ↦
                from_right gs p q y z (split gs solve f (m + 1) x z (starts x_pos whole) pos (omega arith) (behind_right p q y z b) light high)
            | no heavy ↦ from_left gs p q y z (solve m y x iy (ends x_pos whole) (behind_left p q y z b) low (omega arith))
          ])
    ]

  abbrev node_of : Place → Node
  node_of x = record { displacement = x.moved; force = x.force }

  module _ (ok : Sound c) where
    -- a place and the node that the curve gives above it are in balance
    stands : (g : Part) (m : ℕ) (x : Place) (n : Node) → In x m → S * n.displacement ≡ S * x.moved + x.force * g.height →
        n.force ≡ x.force + skin c g * between (shaft_v c g) x.scale x.moved m → SliceBalance c x.scale g (node_of x) n
    stands g m x n i moved force =
        let K = x.scale in
        let t = ceil n.displacement K in
        let B = between (shaft_v c g) K x.moved m in
        let on : x.moved ≤ n.displacement = le_of_mul-le-mul_left {k = S} (omega arith) ok.stiff in
        let lo : K * shaft_v c g (x.moved / K) ≤ B = least (shaft_v c g) (shaft_v_mono c ok g) K x.moved m i in
        let hi : B ≤ K * shaft_v c g t = most (shaft_v c g) (shaft_v_mono c ok g) K x.moved m n.displacement i on in
        let cap : shaft_v c g t ≤ g.friction = ok.shaft.capped g.soil g.modulus g.friction c.body.diameter t in
        let lift : shaft_v c g t ≤ shaft_w c g t = omega arith in
        let more : x.force ≤ n.force = omega arith in
        record {
          force_least = omega (arith, mul-le-mul_left (skin c g) lo);
          force_most = omega (arith, mul-le-mul_left (skin c g) (le_trans hi (mul-le-mul_left K lift)));
          shortening_least = omega arith;
          shortening_most = omega (arith, mul-le-mul_right g.height more);
        }

    joins : (g : Part) (m : ℕ) (y z : Place) → In y m → In z m → (α β k : ℕ) (n : Node) → 0 < k → k ≡ α * (S * y.scale) + β * (S * z.scale) →
        n.displacement ≡ α * (on_in m g y).moved + β * (on_in m g z).moved → n.force ≡ α * (on_in m g y).force + β * (on_in m g z).force →
        SliceBalance c k g (node_of (mix (S * α) (S * β) y z)) n
    joins g m y z iy iz α β k n pos scale moved force =
        let x = mix (S * α) (S * β) y z in
        let same_scale : x.scale ≡ k = omega arith in
        let i : In x m = cells (S * α) (S * β) y.scale z.scale y.moved z.moved m iy iz (omega arith) in
        let line : between (shaft_v c g) x.scale x.moved m ≡
        S * α * between (shaft_v c g) y.scale y.moved m + S * β * between (shaft_v c g) z.scale z.moved m =
        linear (shaft_v c g) (shaft_v_mono c ok g) (S * α) (S * β) y.scale z.scale y.moved z.moved m iy iz in
        subst (λ (r : ℕ). SliceBalance c r g (node_of x) n) same_scale
        (stands g m x n i (omega (arith, ap (λ (r : ℕ). S * r) moved)) (omega (arith, ap (λ (r : ℕ). skin c g * r) line)))

    ahead : (g : Part) (m : ℕ) (y z : Place) → In y m → In z m → Behind y z → Behind (on_in m g y) (on_in m g z)
    ahead g m y z iy iz b = record {
      moved = omega (arith, mul-le-mul_left (S * S) b.moved, mul-le-mul_left (S * g.height) b.force);
      force = omega (
        arith,
        mul-le-mul_left (S * S) b.force,
        mul-le-mul_left (S * S * skin c g) (rising (shaft_v c g) (shaft_v_mono c ok g) y.scale z.scale y.moved z.moved m iy iz b.moved),
      );
    }

    module _ (F : ℕ) where
      -- a column above the slice g goes on below it
      lower : (g : Part) (gs : List Part) (m : ℕ) (y z : Place) → In y m → In z m → Hit F gs (on_in m g y) (on_in m g z) → Hit F (g ∷ gs) y z
      lower g gs m y z iy iz h = record {
        α = S * h.α;
        β = S * h.β;
        scale = h.scale;
        node = node_of (mix (S * h.α) (S * h.β) y z);
        above = h.node ∷ h.above;
        positive = h.positive;
        scale_is = omega arith;
        moved_is = refl;
        force_is = refl;
        shaft = (joins g m y z iy iz h.α h.β h.scale h.node h.positive h.scale_is h.moved_is h.force_is, h.shaft);
        head = h.head;
      }

      step : (g : Part) (gs : List Part) → Solver F gs → Solver F (g ∷ gs)
      step g gs solve m y z iy iz b low high =
          let u = on_in m g y in
          let w = on_in m g z in
          let u-pos : 0 < u.scale = mul-pos ok.stiff iy.scale in
          let w-pos : 0 < w.scale = mul-pos ok.stiff iz.scale in
          lower g gs m y z iy iz
          (split F gs solve w.moved (u.moved / u.scale) u w (in_own u.scale u.moved u-pos) w-pos
          (omega (arith, mul-le-mul_right (u.moved / u.scale + 1 + w.moved) w-pos)) (ahead g m y z iy iz b)
          (subst (λ (r : ℕ). Low F gs (over g r y)) (same (shaft_v c g) (shaft_v_mono c ok g) y.scale y.moved m iy) low)
          (subst (λ (r : ℕ). High F gs (over g r z)) (same (shaft_v c g) (shaft_v_mono c ok g) z.scale z.moved m iz) high))

      solves : (gs : List Part) → Solver F gs
      solves [] = base F
      solves (g ∷ gs) = step g gs (solves gs)

      -- the place of a tip that has moved s
      abbrev tip_at : ℕ → Place
      tip_at s = record { scale = 1; moved = s; force = c.body.tip_area * tip_v c s }

      from_tips : (s : ℕ) → Hit F c.slices (tip_at s) (tip_at (s + 1)) → CarriesExactly c F
      from_tips s h =
          let f = tip_v c in
          let up = tip_v_mono c ok in
          let k = h.α * 1 + h.β * 1 in
          let d = h.α * s + h.β * (s + 1) in
          let A = c.body.tip_area in
          let t = ceil d k in
          let k-is : h.scale ≡ k = h.scale_is in
          let d-is : h.node.displacement ≡ d = h.moved_is in
          let pos : 0 < k = omega (arith, h.positive) in
          let one : Cell 1 s s = starts (omega arith) (omega arith) in
          let two : Cell 1 (s + 1) s = ends (omega arith) (omega arith) in
          let i : Cell k d s = cells h.α h.β 1 1 s (s + 1) s one two pos in
          let line : between f k d s ≡ h.α * between f 1 s s + h.β * between f 1 (s + 1) s = linear f up h.α h.β 1 1 s (s + 1) s one two in
          let line' : between f k d s ≡ h.α * f s + h.β * f (s + 1) = rw (← at_whole f up s, ← at_next f up s) line in
          let force : h.node.force ≡ A * between f k d s = omega (arith, h.force_is, ap (λ (r : ℕ). A * r) line') in
          let lo : k * f (d / k) ≤ between f k d s = least f up k d s i in
          let hi : between f k d s ≤ k * f t = most f up k d s d i (le_refl d) in
          let cap : f t ≤ c.body.tip_resistance = ok.tip.capped c.body.tip_soil c.body.tip_modulus c.body.tip_resistance c.body.diameter t in
          let lift : f t ≤ tip_w c t = omega arith in
          let tip : TipBalance c k (record { displacement = d; force = h.node.force }) = record {
            at_least = omega (arith, mul-le-mul_left A lo);
            at_most = omega (arith, mul-le-mul_left A (le_trans hi (mul-le-mul_left k lift)));
          } in
          record {
            scale = h.scale;
            nodes = record { tip = h.node; above = h.above };
            balanced = record {
              scale = h.positive;
              tip = rw (k-is, d-is) tip;
              shaft = h.shaft;
            };
            carries = h.head;
          }

      -- a place that has not moved and carries nothing ends so
      still : (gs : List Part) (y : Place) → 0 < y.scale → y.moved ≤ 0 → y.force ≤ 0 → (end y gs).force ≤ 0
      still [] y pos moved force = force
      still (g ∷ gs) y pos moved force =
          let f = shaft_v c g in
          let up = shaft_v_mono c ok g in
          let k = y.scale in
          let own = in_own k y.moved pos in
          let t = ceil y.moved k in
          let none : t ≤ 0 = ceil_most k 0 y.moved pos (omega arith) in
          let rest : f 0 ≡ 0 = ok.shaft.rest g.soil g.modulus g.friction c.body.diameter in
          let zero : f t ≤ 0 = omega (arith, up t 0 none) in
          let gain : along f k y.moved ≤ 0 = omega (arith, most f up k y.moved (y.moved / k) y.moved own (le_refl _), mul-le-mul_left k zero) in
          still gs (on g y) (mul-pos ok.stiff pos)
          (omega (arith, mul-le-mul_left S moved, mul-le-mul_right g.height force))
          (omega (arith, mul-le-mul_left S force, mul-le-mul_left (S * skin c g) gain))

      -- a place above the lower march stays above it
      dominates : (gs : List Part) (n : Node) (y : Place) → 0 < y.scale → y.scale * n.displacement ≤ y.moved → y.scale * n.force ≤ y.force →
          (0 < (end y gs).scale) × ((end y gs).scale * (last n (climb (lower_step c) n gs)).force ≤ (end y gs).force)
      dominates [] n y pos moved force = (pos, force)
      dominates (g ∷ gs) n y pos moved force =
          let f = shaft_v c g in
          let k = y.scale in
          let d = y.moved in
          let lo : k * f (d / k) ≤ along f k d = least f (shaft_v_mono c ok g) k d (d / k) (in_own k d pos) in
          let v : f n.displacement ≤ f (d / k) = shaft_v_mono c ok g n.displacement (d / k) (floor_least k n.displacement d pos moved) in
          let gain : k * f n.displacement ≤ along f k d = le_trans (mul-le-mul_left k v) lo in
          dominates gs (lower_step c g n) (on g y) (mul-pos ok.stiff pos)
          (omega (arith, mul-le-mul_left S moved, mul-le-mul_right g.height force, mul-le-mul_left k (div-mul-le_self (n.force * g.height) S)))
          (omega (arith, mul-le-mul_left S force, mul-le-mul_left (S * skin c g) gain))

      found : (s : ℕ) → F * (end (tip_at s) c.slices).scale < (end (tip_at s) c.slices).force → CarriesExactly c F
      found zero high =
          let rest : tip_v c 0 ≡ 0 = ok.tip.rest c.body.tip_soil c.body.tip_modulus c.body.tip_resistance c.body.diameter in
          let none : tip_v c 0 ≤ 0 = omega arith in
          absurd (omega (arith, still c.slices (tip_at 0) (omega arith) (omega arith) (omega (arith, mul-le-mul_left c.body.tip_area none))))
      found (suc s) high = elim (dec_le (end (tip_at s) c.slices).force (F * (end (tip_at s) c.slices).scale)) [
        | yes low ↦
            (let e : suc s ≡ s + 1 = omega arith in
            let over : High F c.slices (tip_at (suc s)) = omega arith in
            let up : tip_v c s ≤ tip_v c (s + 1) = tip_v_mono c ok s (s + 1) (omega arith) in
            from_tips s
            (solves c.slices s (tip_at s) (tip_at (s + 1))
            (starts (omega arith) (omega arith)) (ends (omega arith) (omega arith))
            (record { moved = omega arith; force = omega (arith, mul-le-mul_left c.body.tip_area up) })
            low (subst (λ (r : ℕ). High F c.slices (tip_at r)) e over)))
        | no h ↦ found s (omega arith)
      ]

pub some_column : (c : Case) → Sound c → (T F hi : ℕ) → IsUpperTip c T F hi → CarriesExactly c F
some_column c ok T F hi is =
    let y = tip_at c ok F hi in
    let top = dominates c ok F c.slices (lower_tip c hi) y (omega arith) (omega arith) (omega arith) in
    found c ok F hi (omega (arith, mul-lt-mul_of_pos_right is.above top.0))
