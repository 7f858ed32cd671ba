-- The numbers that a pile was made with.
use Rattle.pile.specs.declared.numbers.PileNumbers.{PileNumbers}
use Rattle.pile.specs.declared.driven.Pile.{Pile}

abbrev pub numbers_of : Pile → PileNumbers
numbers_of p = p.numbers
