-- The least number of moves within which a game is won, and whether the move-count rule could end it meanwhile.
use Rattle.std.specs.Prelude.{◌≡◌, ℕ, zero, suc, ◌+◌, ◌*◌, ◌≤◌, ◌<◌, nat_le, Bool, true, false, not, ◌&&◌, ◌==◌, Option, Some, None, if◌then◌else◌}
use Rattle.rules_model.specs.declared.board.Position.{Position}
use Rattle.rules_model.specs.declared.rules.Rules.{Rules}
use Rattle.rules_model.specs.Games.{Story}
use Rattle.forced_wins.specs.Wins.{wins}

-- the first that is there
abbrev pub or_later : Option ℕ → Option ℕ → Option ℕ
or_later (Some k) later = Some k
or_later None later = later

abbrev pub if_passes : (ℕ → Bool) → ℕ → Option ℕ
if_passes test k = if test k then Some k else None

-- the least number from 1 to n that passes the test
abbrev pub first_within : (ℕ → Bool) → ℕ → Option ℕ
first_within test zero = None
first_within test (suc n) = or_later (first_within test n) (if_passes test (suc n))

-- the side that is to move wins the game by this number of its moves
abbrev pub mover_wins : Rules → Story → ℕ → Bool
mover_wins rules g k = wins rules k g g.last.side

-- the least number of moves from 1 to n within which the side that is to move wins the game, None where it wins
-- within none
unfoldable pub least : Rules → ℕ → Story → Option ℕ
least rules n g = first_within (mover_wins rules g) n

-- what it means that a number, or none, is the first from 1 to n that passes
pub record IsFirst (test : ℕ → Bool) (n k : ℕ) : Type 0 where
  pub some : 1 ≤ k
  pub within : k ≤ n
  pub passes : test k ≡ true
  pub first : (j : ℕ) → 1 ≤ j → j < k → test j ≡ false

abbrev pub IsFirstWithin : (ℕ → Bool) → ℕ → Option ℕ → Type 0
IsFirstWithin test n (Some k) = IsFirst test n k
IsFirstWithin test n None = (j : ℕ) → 1 ≤ j → j ≤ n → test j ≡ false

-- the move-count rule could end the game within n moves from the position
abbrev pub is_counted : Rules → ℕ → Position → Bool
is_counted rules n p = not (rules.n_move == 0) && nat_le (2 * rules.n_move) (p.counter + 2 * n)
