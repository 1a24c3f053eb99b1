-- Lines from the root by positions that are still won.
use Rattle.std.specs.Prelude.{◌≡◌, ℕ, ◌+◌, ◌*◌, ◌≤◌, List, [], ◌∷◌, length, Bool}
use Rattle.rules_model.specs.declared.board.Position.{Position}
use Rattle.rules_model.specs.declared.board.Repeat.{Repeat}
use Rattle.rules_model.specs.declared.moves.Move.{Move}
use Rattle.forced_wins.specs.Games.{Game}
use Rattle.forced_wins.specs.Lines.{moves_left, IsWonAlong, behind}
use Rattle.mate_settle.specs.Lines.{plies}

-- how many of n moves the attacker has left after the line
abbrev pub left_along : Game Position Repeat Move → ℕ → Position → List Move → ℕ
left_along r n p [] = n
left_along r n p (m ∷ ms) = left_along r (moves_left r n p) (r.next p m) ms

-- a line leads from the root, where the attacker has `whole` moves, to p, and leaves him n moves or more
pub record IsReached (r : Game Position Repeat Move) (barred : Repeat → Bool) (whole : ℕ) (root : Position)
    (n : ℕ) (p : Position) : Type 0 where
  pub line : List Move
  pub won : IsWonAlong r barred whole root line
  pub leads : behind r root line ≡ p
  pub enough : n ≤ left_along r whole root line
  pub short : length line + plies r (left_along r whole root line) p ≤ 2 * whole + 1

-- a line leads from the root to the repeat at the counter
pub record OnLine (r : Game Position Repeat Move) (barred : Repeat → Bool) (whole : ℕ) (root : Position)
    (x : Repeat) (c : ℕ) : Type 0 where
  pub line : List Move
  pub short : length line ≤ 2 * whole + 1
  pub won : IsWonAlong r barred whole root line
  pub repeat : r.repeat (behind r root line) ≡ x
  pub counter : r.counter (behind r root line) ≡ c
