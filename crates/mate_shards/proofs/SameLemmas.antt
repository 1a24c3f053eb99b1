-- Values of many fields are one where all their fields are.
use Rattle.std.proofs.Common.{◌≡◌, ℕ, zero, suc, ◌<◌, List, [], ◌∷◌, length, get_or, refl, arith}
use Rattle.rules_model.specs.declared.board.Position.{Position}
use Rattle.rules_model.specs.Repeats.{repeat_of}

pub position-from : (a b : Position) → repeat_of a ≡ repeat_of b → a.counter ≡ b.counter → a.number ≡ b.number → a ≡ b
position-from a b same counter number i = record {
  cells = (same i).cells;
  hands = (same i).hands;
  gates = (same i).gates;
  counter = counter i;
  number = number i;
  rights = (same i).rights;
  checks = (same i).checks;
  ep = (same i).ep;
  side = (same i).side;
}

-- within a list no default is read
pub any_default : {X : Type 0} (xs : List X) (k : ℕ) (d e : X) → k < length xs → get_or xs k d ≡ get_or xs k e
any_default [] k d e l = absurd (omega arith)
any_default (x ∷ xs) zero d e l = refl
any_default (x ∷ xs) (suc k) d e l = any_default xs k d e (omega arith)
