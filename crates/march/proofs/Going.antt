-- What the loops of a march keep.
use Rattle.std.proofs.Common.{◌≡◌, ℕ, zero, suc, ◌+◌, ◌-◌, ◌*◌, ◌<◌, ◌≤◌, min, List, ◌∷◌, length, drop, sym, refl, ap, ◌∙◌, subst, mul-le-mul_right, mul-le-mul_left, arith}
use Rattle.std.proofs.lemmas.List.{drop_more}
use Rattle.transfer.specs.Curve.{Capped}
use Rattle.column.specs.declared.Part.{Part}
use Rattle.column.specs.declared.PileBody.{PileBody}
use Rattle.column.specs.declared.Node.{Node}
use Rattle.column.specs.Rounding.{ceil}
use Rattle.column.specs.Slices.{slice, pieces, cut_left, cut, slices}
use Rattle.column.specs.Case.{Case, tip_w}
use Rattle.column.specs.Tips.{tip_range}
use Rattle.column.proofs.Rounding.{ceil_reaches}
use Rattle.shaft.specs.Room.{Room, height_of, part_resistance, parts_resistance}
use Rattle.march.specs.declared.Side.{Side}
use Rattle.march.specs.declared.Side.TheVariants.{Lower, Upper}
use Rattle.march.specs.Sides.{tip_by, step_by, head_over}
use Rattle.march.specs.Ahead.{Ahead}
use Rattle.march.proofs.Fitting.{ahead_lower, ahead_upper}
use Rattle.march.proofs.Cutting.{at, cut_none, cut_more, head_append}

-- what is ahead can be taken for less
ahead_less : {b : PileBody} {n : Node} {H F h f : ℕ} → h ≤ H → f ≤ F → Ahead b n H F → Ahead b n h f
ahead_less lh lf a = record {
  bodied = a.bodied;
  force = omega (arith, a.force);
  displacement = omega (arith, a.displacement);
}

-- .. as over the first slice of what is left of a part
pub ahead_first : {b : PileBody} {n : Node} {left : ℕ} (p : Part) (h : ℕ) → h ≤ left → Ahead b n left (b.perimeter * left * p.friction) →
    Ahead b n h (b.perimeter * h * p.friction)
ahead_first {b} p h le a = ahead_less le (mul-le-mul_right p.friction (mul-le-mul_left b.perimeter le)) a

module _ (c : Case) (capped : Capped c.shaft) where
  ahead_step : (side : Side) (g : Part) (n : Node) (H F : ℕ) →
      Ahead c.body n (g.height + H) (part_resistance c.body g + F) → Ahead c.body (step_by side c g n) H F
  ahead_step Lower g n H F a = ahead_lower c capped g n H F a
  ahead_step Upper g n H F a = ahead_upper c g n H F a

  -- over a slice of a part of which `left` is left
  ahead_slice : (side : Side) (p : Part) (left h : ℕ) (n : Node) (H F : ℕ) → h ≤ left →
      Ahead c.body n (left + H) (c.body.perimeter * left * p.friction + F) →
      Ahead c.body (step_by side c (slice h p) n) (left - h + H) (c.body.perimeter * (left - h) * p.friction + F)
  ahead_slice side p left h n H F le a =
      let P = c.body.perimeter in
      let r = left - h in
      let e : left ≡ h + r = omega arith in
      let split : P * left * p.friction ≡ P * h * p.friction + P * r * p.friction = ap (λ x. P * x * p.friction) e ∙ omega arith in
      ahead_step side (slice h p) n (left - h + H) (P * (left - h) * p.friction + F) (ahead_less (omega arith) (omega (arith, split)) a)

  ahead_pieces : (side : Side) (step : ℕ) (p : Part) (count left : ℕ) (n : Node) (H F : ℕ) → left ≤ step * count →
      Ahead c.body n (left + H) (c.body.perimeter * left * p.friction + F) → Ahead c.body (head_over (step_by side c) n (pieces count step left p)) H F
  ahead_pieces side step p zero left n H F le a = ahead_less (omega arith) (omega arith) a
  ahead_pieces side step p (suc count) left n H F le a =
      let h = min step left in
      let e : left - h ≡ left - step = omega arith in
      let next : Ahead c.body (step_by side c (slice h p) n) (left - h + H) (c.body.perimeter * (left - h) * p.friction + F) =
      ahead_slice side p left h n H F (omega arith) a in
      ahead_pieces side step p count (left - step) (step_by side c (slice h p) n) H F (omega arith) (rw e at next)

  -- over a part
  ahead_part : (side : Side) (step : ℕ) (p : Part) (n : Node) (H F : ℕ) → 0 < step →
      Ahead c.body n (p.height + H) (part_resistance c.body p + F) → Ahead c.body (head_over (step_by side c) n (cut step p)) H F
  ahead_part side step p n H F pos a = ahead_pieces side step p (ceil p.height step) p.height n H F (ceil_reaches p.height step pos) a

-- the loop over the slices of a part
pub record Along (c : Case) (side : Side) (step : ℕ) (p : Part) (under : Node) (left : ℕ) (n : Node) : Type 0 where
  pub same : head_over (step_by side c) n (cut_left step left p) ≡ head_over (step_by side c) under (cut step p)
  pub ahead : Ahead c.body n left (c.body.perimeter * left * p.friction)

-- the loop over the parts
pub record Going (c : Case) (side : Side) (step s : ℕ) (ps rest : List Part) (n : Node) : Type 0 where
  pub same : head_over (step_by side c) n (slices step rest) ≡ head_over (step_by side c) (tip_by side c s) (slices step ps)
  pub ahead : Ahead c.body n (height_of rest) (parts_resistance c.body rest)

pub along_over : {c : Case} → Capped c.shaft → (side : Side) (p : Part) {step left : ℕ} {under n m : Node} (h : ℕ) → 0 < step → 0 < left → h ≡ min step left →
    m ≡ step_by side c (slice h p) n → Along c side step p under left n → Along c side step p under (left - h) m
along_over {c} capped side p {step} {left} {under} {n} {m} h pos some eh em w =
    rw em (record {
      same = (rw (cut_more step left h p pos some eh) at w.same);
      ahead = ahead_less (omega arith) (omega arith) (ahead_slice c capped side p left h n 0 0 (omega arith) (ahead_less (omega arith) (omega arith) w.ahead));
    })

pub along_end : {c : Case} {side : Side} {p : Part} {step left : ℕ} {under n : Node} → 0 < step → left ≤ 0 → Along c side step p under left n →
    n ≡ head_over (step_by side c) under (cut step p)
along_end {c} {side} {p} {step} {left} pos none w =
    let z : left ≡ 0 = omega arith in
    rw (z, cut_none step p pos) at w.same

module _ (c : Case) (side : Side) {step s : ℕ} {ps : List Part} where
  going_tip : Room c.body step ps → s ≤ tip_range c.body → (tip_by side c s).force ≤ c.body.tip_area * c.body.tip_resistance →
      (tip_by side c s).displacement ≡ s → Going c side step s ps ps (tip_by side c s)
  going_tip room start cap moved = record {
    same = refl;
    ahead = record {
      bodied = room.body;
      force = omega (arith, room.firm);
      displacement = omega (arith, room.deep, start);
    };
  }

  opened : (i : ℕ) (n : Node) → i < length ps → Going c side step s ps (drop i ps) n → Going c side step s ps (at ps i ∷ drop (i + 1) ps) n
  opened i n h k = subst (λ (r : List Part). Going c side step s ps r n) (drop_more ps i _ h) k

  going_over : Capped c.shaft → (p : Part) (rest : List Part) (n : Node) → 0 < step → Going c side step s ps (p ∷ rest) n →
      Going c side step s ps rest (head_over (step_by side c) n (cut step p))
  going_over capped p rest n pos k = record {
    same = sym (head_append (step_by side c) n (cut step p) (slices step rest)) ∙ k.same;
    ahead = ahead_part c capped side step p n (height_of rest) (parts_resistance c.body rest) pos k.ahead;
  }

  pub going_over_at : {i : ℕ} {n r : Node} → Capped c.shaft → i < length ps → 0 < step → r ≡ head_over (step_by side c) n (cut step (at ps i)) →
      Going c side step s ps (drop i ps) n → Going c side step s ps (drop (i + 1) ps) r
  going_over_at {i} {n} capped h pos e k = rw e (going_over capped (at ps i) (drop (i + 1) ps) n pos (opened i n h k))

pub going_start : (c : Case) → Capped c.tip → (side : Side) {step s : ℕ} {ps : List Part} {n : Node} → Room c.body step ps → s ≤ tip_range c.body →
    n ≡ tip_by side c s → Going c side step s ps ps n
going_start c capped Lower {s = s} room start e =
    rw e (going_tip c Lower room start (mul-le-mul_left c.body.tip_area (capped c.body.tip_soil c.body.tip_modulus c.body.tip_resistance c.body.diameter s)) refl)
going_start c capped Upper {s = s} room start e =
    let cap : tip_w c s ≤ c.body.tip_resistance = omega arith in
    rw e (going_tip c Upper room start (mul-le-mul_left c.body.tip_area cap) refl)
