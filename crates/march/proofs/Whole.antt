-- What a shaft keeps of its room, said of the parts that it shows.
use Rattle.std.proofs.Common.{◌≡◌, List}
use Rattle.column.specs.declared.Part.{Part}
use Rattle.shaft.specs.declared.held.Shaft.{Shaft}
use Rattle.shaft.specs.Room.{Room}
use Rattle.shaft.specs.Views.{body_of, step_of, parts_of}

pub room_shown : (s : Shaft) {ps : List Part} → ps ≡ parts_of s → Room (body_of s) (step_of s) ps
room_shown s e = rw e (record { body = s.bodied; tip = s.borne; shaft = s.met; step_fits = s.stepped; deep = s.deep; firm = s.firm })
