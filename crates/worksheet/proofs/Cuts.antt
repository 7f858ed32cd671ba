-- What follows a line is shorter.
use Rattle.std.proofs.Common.{◌<◌, ℕ, List, ◌∷◌, length, ap, inl, inr, arith, length-append}
use Rattle.worksheet.specs.Cutting.{Line}

pub less : {text line rest : List ℕ} → Line text line rest → length rest < length text
less {text} {line} {rest} l =
    elim l.cut [ inl e ↦ omega (arith, ap length e, length-append line (10 ∷ rest)) | inr e ↦ omega (arith, l.some, ap length e.1) ]
