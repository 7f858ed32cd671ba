-- The layer that bears at a depth: its top is at or above the depth, and its bottom below it.
use Rattle.std.specs.Prelude.{◌≡◌, ℕ, ◌+◌, ◌-◌, ◌<◌, ◌≤◌, cond, List, [], ◌∷◌, length, take, nat_lt}
use Rattle.ground.specs.declared.layer.Layer.{Layer}
use Rattle.ground.specs.Layers.{depth}
use Rattle.pile.specs.declared.tip.Bearing.{Bearing}

-- the depth of the top of layer i
abbrev pub top_of : List Layer → ℕ → ℕ
top_of ls i = depth (take i ls)

pub record Bears (ls : List Layer) (d i : ℕ) : Type 0 where
  pub there : i < length ls
  pub top : top_of ls i ≤ d
  pub bottom : d < top_of ls (i + 1)

-- its index, counted from the surface
abbrev pub bearing_index : List Layer → ℕ → ℕ
bearing_index [] d = 0
bearing_index (l ∷ ls) d = cond (nat_lt d l.thickness) 0 (bearing_index ls (d - l.thickness) + 1)

-- it bears, and no other layer does; index and depth of the top are the ones told
pub record BearsAlone (ls : List Layer) (d : ℕ) (b : Bearing) : Type 0 where
  pub bears : Bears ls d b.index
  pub alone : (i : ℕ) → Bears ls d i → i ≡ b.index
  pub same : b.index ≡ bearing_index ls d
  pub top : b.top ≡ top_of ls b.index
