-- What the moves of a position come to.
use Rattle.std.specs.Prelude.{◌≡◌, ℕ, ◌<◌, Bool, true, Option, Some, None}
use Rattle.std.specs.List.{list_any, list_all, sum_by}
use Rattle.foundation.specs.Member.{Member}
use Rattle.rules_model.specs.declared.board.Position.{Position}
use Rattle.rules_model.specs.declared.moves.Move.{Move}
use Rattle.rules_model.specs.Next.{next}
use Rattle.rules_model.specs.Sides.{same_side}
use Rattle.mate_core.specs.declared.frame.Frame.{Frame}
use Rattle.mate_fact.specs.InFrame.{near_in, legal_in, left_after}
use Rattle.mate_settle.specs.declared.choosing.WinningMove.{WinningMove}
use Rattle.mate_settle.specs.Lines.{lines_after, seen_in}

-- after the move the position is won within n moves
abbrev pub wins_after : Frame → ℕ → Position → Move → Bool
wins_after f n p m = near_in f n (next f.rules p m)

-- some legal move is won within n moves, or each is
abbrev pub some_wins : Frame → ℕ → Position → Bool
some_wins f n p = list_any (λ m. near_in f n (next f.rules p m)) (legal_in f p)

abbrev pub all_win : Frame → ℕ → Position → Bool
all_win f n p = list_all (λ m. near_in f n (next f.rules p m)) (legal_in f p)

-- a legal move that wins, and within fewer than n moves
pub record IsChoice (f : Frame) (p : Position) (n : ℕ) (c : WinningMove) : Type 0 where
  pub is_legal : Member c.chosen (legal_in f p)
  pub fewer : c.moves < n
  pub won : near_in f c.moves (next f.rules p c.chosen) ≡ true

-- its move
abbrev pub move_of : Option WinningMove → Option Move
move_of None = None
move_of (Some c) = Some c.chosen

-- the lines that go on after each of its moves
abbrev pub lines_of_moves : Frame → ℕ → Position → ℕ
lines_of_moves f n p = sum_by (lines_after (seen_in f) n p) (legal_in f p)

-- the same, where the attacker has n moves left before them
abbrev pub lines_of_turn : Frame → ℕ → Position → ℕ
lines_of_turn f n p = lines_of_moves f (left_after (same_side p.side f.attacker) n) p
