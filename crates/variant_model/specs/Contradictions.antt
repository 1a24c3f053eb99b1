-- Rules that contradict each other, by their numbers.
use Rattle.std.specs.Prelude.{ℕ, Bool, false, ◌||◌, ◌==◌, List, [], ◌∷◌, Option, Some, None, if◌then◌else◌}
use Rattle.std.specs.List.{list_any}
use Rattle.rules_model.specs.declared.board.Kind.{Kind}
use Rattle.rules_model.specs.declared.rules.Rules.{Rules}
use Rattle.rules_model.specs.Fit.{has_no_piece, promotes_to_pawn_or_king, chains_promotions, gates_nowhere, gates_amiss}

-- a left letter stands again
unfoldable pub has_left_twice : List (Kind × Kind) → Bool
has_left_twice [] = false
has_left_twice (pair ∷ pairs) = list_any (λ other. other.0.0 == pair.0.0) pairs || has_left_twice pairs

-- 1: there is no piece. 2: a pawn becomes a pawn or a king. 3: the pairs of promoted pieces name the pawn or the king,
-- have a left letter twice, or a letter both left and right. 4: hand pieces come in by gates that the variant has not.
-- 5: gates with more files than letters of gates, or with castling on another rank or with pawns
unfoldable pub contradiction : Rules → List (Kind × Kind) → Option ℕ
contradiction rules pairs =
    if has_no_piece rules then Some 1
    else if promotes_to_pawn_or_king rules then Some 2
    else if has_left_twice pairs || chains_promotions rules then Some 3
    else if gates_nowhere rules then Some 4
    else if gates_amiss rules then Some 5
    else None
