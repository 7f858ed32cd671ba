-- The column that the lower curve itself gives, from a whole displacement of the tip, in parts of the stiffness.
use Rattle.std.proofs.Common.{◌≡◌, ℕ, ◌+◌, ◌*◌, ◌/◌, ◌≤◌, List, [], ◌∷◌, refl, le_refl, mul-le-mul_left, mul-div_cancel, arith}
use Rattle.column.specs.declared.Part.{Part}
use Rattle.column.specs.declared.Node.{Node}
use Rattle.column.specs.Rounding.{ceil}
use Rattle.column.specs.Case.{Case, Sound, shaft_v, shaft_w, skin, tip_v, tip_w}
use Rattle.column.specs.Nodes.{Nodes, last}
use Rattle.column.specs.Balanced.{SliceBalance, ShaftBalance}
use Rattle.column.specs.Bracket.{ColumnFrom, CarriesLess}
use Rattle.column.proofs.Rounding.{floor_ceil}
use Rattle.column.proofs.Dominance.{shaft_v_mono, tip_v_mono}

module _ (c : Case) where
  -- a node that has moved d / S and carries the whole force N
  abbrev at : ℕ → ℕ → Node
  at d N = record { displacement = d; force = c.body.stiffness * N }

  abbrev gain : Part → ℕ → ℕ
  gain g d = skin c g * shaft_v c g (d / c.body.stiffness)

  abbrev build : ℕ → ℕ → List Part → List Node
  build d N [] = []
  build d N (g ∷ gs) = at (d + N * g.height) (N + gain g d) ∷ build (d + N * g.height) (N + gain g d) gs

  abbrev tip_force : ℕ → ℕ
  tip_force s = c.body.tip_area * tip_v c s

  abbrev pub built : ℕ → Nodes
  built s = record { tip = at (s * c.body.stiffness) (tip_force s); above = build (s * c.body.stiffness) (tip_force s) c.slices }

  module _ (ok : Sound c) where
    abbrev S : ℕ
    S = c.body.stiffness

    step : (g : Part) (d N : ℕ) → SliceBalance c S g (at d N) (at (d + N * g.height) (N + gain g d))
    step g d N =
        let up : shaft_v c g (d / S) ≤ shaft_v c g (ceil (d + N * g.height) S) =
        shaft_v_mono c ok g (d / S) (ceil (d + N * g.height) S) (floor_ceil S d (d + N * g.height) ok.stiff (omega arith)) in
        let cap : shaft_v c g (ceil (d + N * g.height) S) ≤ g.friction = ok.shaft.capped g.soil g.modulus g.friction c.body.diameter (ceil (d + N * g.height) S) in
        let lift : shaft_v c g (d / S) ≤ shaft_w c g (ceil (d + N * g.height) S) = omega arith in
        record {
          force_least = omega arith;
          force_most = omega (arith, mul-le-mul_left S (mul-le-mul_left (skin c g) lift));
          shortening_least = omega arith;
          shortening_most = omega arith;
        }

    rises : (d N : ℕ) (gs : List Part) → ShaftBalance c S (at d N) gs (build d N gs)
    rises d N [] = tt
    rises d N (g ∷ gs) = (step g d N, rises (d + N * g.height) (N + gain g d) gs)

    pub from_whole : (s : ℕ) → ColumnFrom c s
    from_whole s =
        let same : s * S / S ≡ s = mul-div_cancel s ok.stiff in
        let least : tip_v c (s * S / S) ≤ tip_v c s = tip_v_mono c ok (s * S / S) s (omega arith) in
        let most : tip_v c s ≤ tip_v c (ceil (s * S) S) = tip_v_mono c ok s (ceil (s * S) S) (omega (arith, floor_ceil S (s * S) (s * S) ok.stiff (le_refl _))) in
        let cap : tip_v c (ceil (s * S) S) ≤ c.body.tip_resistance = ok.tip.capped c.body.tip_soil c.body.tip_modulus c.body.tip_resistance c.body.diameter (ceil (s * S) S) in
        let lift : tip_v c s ≤ tip_w c (ceil (s * S) S) = omega arith in
        record {
          scale = S;
          nodes = built s;
          balanced = record {
            scale = ok.stiff;
            tip = record {
              at_least = mul-le-mul_left S (mul-le-mul_left c.body.tip_area least);
              at_most = mul-le-mul_left S (mul-le-mul_left c.body.tip_area lift);
            };
            shaft = rises (s * S) (tip_force s) c.slices;
          };
          moved = refl;
        }

    -- the column at rest, which carries nothing
    abbrev still : Node
    still = record { displacement = 0; force = 0 }

    abbrev stills : List Part → List Node
    stills [] = []
    stills (g ∷ gs) = still ∷ stills gs

    at_rest : (g : Part) → SliceBalance c 1 g still still
    at_rest g =
        let none : shaft_v c g 0 ≡ 0 = ok.shaft.rest g.soil g.modulus g.friction c.body.diameter in
        let least : shaft_v c g 0 ≤ 0 = omega arith in
        record {
          force_least = omega (arith, mul-le-mul_left (skin c g) least);
          force_most = omega arith;
          shortening_least = omega arith;
          shortening_most = omega arith;
        }

    all_rest : (gs : List Part) → ShaftBalance c 1 still gs (stills gs)
    all_rest [] = tt
    all_rest (g ∷ gs) = (at_rest g, all_rest gs)

    rest_end : (gs : List Part) → (last still (stills gs)).force ≡ 0
    rest_end [] = refl
    rest_end (g ∷ gs) = rest_end gs

    pub idle : (F s : ℕ) → 1 ≤ F → s ≡ 0 → CarriesLess c F s
    idle F s some e =
        let none : tip_v c 0 ≡ 0 = ok.tip.rest c.body.tip_soil c.body.tip_modulus c.body.tip_resistance c.body.diameter in
        let least : tip_v c 0 ≤ 0 = omega arith in
        record {
          column = record {
            scale = 1;
            nodes = record { tip = still; above = stills c.slices };
            balanced = record {
              scale = omega arith;
              tip = record { at_least = omega (arith, mul-le-mul_left c.body.tip_area least); at_most = omega arith };
              shaft = all_rest c.slices;
            };
            moved = omega arith;
          };
          less = omega (arith, rest_end c.slices);
        }
