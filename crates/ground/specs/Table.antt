-- The layers that a ground holds, the uppermost first.
use Rattle.std.specs.Prelude.{List, vec_items}
use Rattle.ground.specs.declared.layer.Layer.{Layer}
use Rattle.ground.specs.declared.table.Ground.{Ground}

abbrev pub strata : Ground → List Layer
strata g = vec_items g.layers
