-- A shaft that is the one of a pile in a ground, over a list of unit frictions.
use Rattle.std.specs.Prelude.{◌≡◌, ℕ, List}
use Rattle.ground.specs.declared.layer.Layer.{Layer}
use Rattle.pile.specs.declared.numbers.PileNumbers.{PileNumbers}
use Rattle.shaft.specs.declared.held.Shaft.{Shaft}
use Rattle.shaft.specs.Attached.{body_on, parts_up}
use Rattle.shaft.specs.Views.{body_of, step_of, parts_of}

pub record StandsOn (ls : List Layer) (n : PileNumbers) (qs : List ℕ) (s : Shaft) : Type 0 where
  pub body : body_of s ≡ body_on ls n
  pub step : step_of s ≡ n.step
  pub parts : parts_of s ≡ parts_up ls n qs
