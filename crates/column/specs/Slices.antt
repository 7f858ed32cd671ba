-- The slices of a shaft: each part, from the tip up, is cut upwards from its lower edge into slices of one step; the uppermost takes the rest.
use Rattle.std.specs.Prelude.{ℕ, zero, suc, ◌-◌, min, List, [], ◌∷◌, ◌++◌}
use Rattle.column.specs.declared.Part.{Part}
use Rattle.column.specs.Rounding.{ceil}

-- a height of a part
abbrev pub slice : ℕ → Part → Part
slice height p = record { height = height; soil = p.soil; modulus = p.modulus; friction = p.friction }

-- so many slices of a part of which `left` is left, the lowest first
abbrev pub pieces : ℕ → ℕ → ℕ → Part → List Part
pieces zero step left p = []
pieces (suc count) step left p = slice (min step left) p ∷ pieces count step (left - step) p

-- what is left of a part, in as many slices as it takes
abbrev pub cut_left : ℕ → ℕ → Part → List Part
cut_left step left p = pieces (ceil left step) step left p

abbrev pub cut : ℕ → Part → List Part
cut step p = cut_left step p.height p

-- all parts, the lowest first
abbrev pub slices : ℕ → List Part → List Part
slices step [] = []
slices step (p ∷ ps) = cut step p ++ slices step ps
