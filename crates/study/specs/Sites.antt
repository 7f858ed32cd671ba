-- A site is a ground and a pile as plain data; when a call that changes it is refused, and what it makes of it.
use Rattle.std.specs.Prelude.{ℕ, List, [], Some, None, Option}
use Rattle.terms.specs.declared.refusal.Refusal.{Refusal}
use Rattle.ground.specs.declared.layer.Layer.{Layer}
use Rattle.ground.specs.Edits.{lay_refusal, laid, amend_refusal, amended, lift_refusal, lifted}
use Rattle.pile.specs.declared.numbers.PileNumbers.{PileNumbers}
use Rattle.pile.specs.Numbers.{pile_flaw}
use Rattle.calls.specs.declared.Question.{Question}
use Rattle.calls.specs.declared.Call.{Call}
use Rattle.calls.specs.declared.Call.TheVariants as code

-- the layers from the surface down, and the numbers of the pile, if any
pub record Site : Type 0 where
  pub layers : List Layer
  pub pile : Option PileNumbers

-- as a study is made: no layers, no pile
abbrev pub bare : Site
bare = record { layers = []; pile = None }

-- a call by its arguments alone, wherever they stand in memory
pub data Plain : Type 0 where
  Lay : Layer → Plain
  Amend : ℕ → ℕ → ℕ → Plain
  Lift : Plain
  Drive : PileNumbers → Plain
  Judge : Question → Plain

abbrev pub plain : Call → Plain
plain (code.Lay l) = Lay l
plain (code.Amend a) = Amend a.index a.pressure a.modulus
plain code.Lift = Lift
plain (code.Drive n) = Drive n
plain (code.Judge q) = Judge q

-- why a site does not take a change; a question changes nothing
abbrev pub change_refusal : Site → Plain → Option Refusal
change_refusal s (Lay l) = lay_refusal s.layers l
change_refusal s (Amend i p m) = amend_refusal s.layers i p m
change_refusal s Lift = lift_refusal s.layers
change_refusal s (Drive n) = pile_flaw n
change_refusal s (Judge q) = None

-- the site that a granted call leaves
abbrev pub changed : Site → Plain → Site
changed s (Lay l) = record { layers = laid s.layers l; pile = s.pile }
changed s (Amend i p m) = record { layers = amended s.layers i p m; pile = s.pile }
changed s Lift = record { layers = lifted s.layers; pile = s.pile }
changed s (Drive n) = record { layers = s.layers; pile = Some n }
changed s (Judge q) = s
