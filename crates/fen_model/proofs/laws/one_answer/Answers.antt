use Rattle.std.proofs.Common.{◌≡◌, ◌⊎◌, Ok, Err, inl, inr, refl}
use Rattle.std.specs.declared.result.Result.{Result}
use Rattle.rules_model.specs.declared.board.Position.{Position}
use Rattle.fen_model.specs.declared.fault.FenFault.{FenFault}
use Rattle.fen_model.specs.Reading.{fen_of}
use Rattle.fen_model.proofs.laws.one_answer.Goals as goal

one_of : (r : Result Position FenFault) → ((p : Position) × (r ≡ Ok p)) ⊎ ((f : FenFault) × (r ≡ Err f))
one_of (Ok p) = inl (p, refl)
one_of (Err f) = inr (f, refl)

pub returns-clause-some : goal.returns-clause-some
returns-clause-some c = λ rules text. one_of (fen_of rules text)
