-- How many ways a position can go on.
use Rattle.std.specs.Prelude.{◌≡◌, ℕ, true, zero, suc, List, [], ◌∷◌, map, length}
use Rattle.std.specs.List.{flat_map}
use Rattle.rules_model.specs.declared.board.Position.{Position}
use Rattle.rules_model.specs.declared.moves.Move.{Move}
use Rattle.rules_model.specs.declared.rules.Rules.{Rules}
use Rattle.rules_model.specs.Games.{are_legal}
use Rattle.rules_model.specs.Legal.{legal}
use Rattle.rules_model.specs.Next.{next}
use Rattle.rules_model.specs.Repeats.{repeat_of}

-- so many moves, each legal in its turn
pub record IsLine (rules : Rules) (n : ℕ) (p : Position) (ms : List Move) : Type 0 where
  pub long : length ms ≡ n
  pub legal_moves : are_legal rules p ms ≡ true

-- every such list
unfoldable pub lines : Rules → ℕ → Position → List (List Move)
lines rules zero p = [] ∷ []
lines rules (suc n) p = flat_map (λ m. map (λ ms. m ∷ ms) (lines rules n (next rules p m))) (legal rules (repeat_of p))

-- how many there are
unfoldable pub perft : Rules → ℕ → Position → ℕ
perft rules n p = length (lines rules n p)
