-- The parts that are still to come in a walk down the shaft.
use Rattle.std.specs.Prelude.{List}
use Rattle.pile.specs.declared.parts.Parts.{Parts}
use Rattle.pile.specs.Shaft.{ShaftPart, parts_above}

abbrev pub parts_left : Parts → List ShaftPart
parts_left p = parts_above p.left p.layers.now
