-- A pile in its ground, as a column sees it: the curves of a transfer law, the pile's body, and the slices along its shaft, the lowest first.
use Rattle.std.specs.Prelude.{ℕ, ◌+◌, ◌*◌, ◌<◌, min, List}
use Rattle.transfer.specs.Curve.{Curve, Transfers}
use Rattle.column.specs.declared.Part.{Part}
use Rattle.column.specs.declared.PileBody.{PileBody}

pub record Case : Type 0 where
  pub shaft : Curve
  pub tip : Curve
  pub body : PileBody
  pub slices : List Part

abbrev pub case_of : Curve → Curve → PileBody → List Part → Case
case_of shaft tip body slices = record { shaft = shaft; tip = tip; body = body; slices = slices }

-- the curves are those of a law, and the pile has a stiffness
pub record Sound (c : Case) : Type 0 where
  pub shaft : Transfers c.shaft
  pub tip : Transfers c.tip
  pub stiff : 0 < c.body.stiffness

-- w, from v: one more, as far as q allows (Pa)
abbrev pub raised : ℕ → ℕ → ℕ
raised v q = min (v + 1) q

-- v and w on a slice, and at the tip, at the displacement s in nm
abbrev pub shaft_v : Case → Part → ℕ → ℕ
shaft_v c g s = c.shaft g.soil g.modulus g.friction c.body.diameter s

abbrev pub shaft_w : Case → Part → ℕ → ℕ
shaft_w c g s = raised (shaft_v c g s) g.friction

abbrev pub tip_v : Case → ℕ → ℕ
tip_v c s = c.tip c.body.tip_soil c.body.tip_modulus c.body.tip_resistance c.body.diameter s

abbrev pub tip_w : Case → ℕ → ℕ
tip_w c s = raised (tip_v c s) c.body.tip_resistance

-- the surface of the pile along a slice: P·h, mm²
abbrev pub skin : Case → Part → ℕ
skin c g = c.body.perimeter * g.height
