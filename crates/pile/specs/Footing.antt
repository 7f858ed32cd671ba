-- What a footing holds.
use Rattle.std.specs.Prelude.{List}
use Rattle.ground.specs.declared.layer.Layer.{Layer}
use Rattle.ground.specs.Table.{strata}
use Rattle.pile.specs.declared.numbers.PileNumbers.{PileNumbers}
use Rattle.pile.specs.declared.footing.Footing.{Footing}
use Rattle.pile.specs.Driven.{numbers_of}

-- the layers of the ground
abbrev pub layers_under : Footing → List Layer
layers_under f = strata f.ground.now

-- the numbers of the pile
abbrev pub numbers_on : Footing → PileNumbers
numbers_on f = numbers_of f.pile.now
