-- How many plies and lines a search of forced wins may look at.
use Rattle.std.specs.Prelude.{ℕ, zero, suc, ◌+◌, if◌then◌else◌}
use Rattle.std.specs.List.{sum_by}
use Rattle.rules_model.specs.declared.board.Position.{Position}
use Rattle.rules_model.specs.declared.board.Repeat.{Repeat}
use Rattle.rules_model.specs.declared.moves.Move.{Move}
use Rattle.forced_wins.specs.Games.{Game}
use Rattle.forced_wins.specs.Views.{seen_by}
use Rattle.mate_core.specs.declared.frame.Frame.{Frame}

-- n moves of the attacker in plies
abbrev pub plies : {P R M : Type 0} → Game P R M → ℕ → P → ℕ
plies r n p = if r.attacking p then n + n else n + n + 1

-- the number of lines of at most t legal moves, the empty one included
unfoldable pub lines : {P R M : Type 0} → Game P R M → ℕ → P → ℕ
lines r zero p = 1
lines r (suc t) p = 1 + sum_by (λ m. lines r t (r.next p m)) (r.legal p)

-- those of n moves of the attacker
abbrev pub lines_within : {P R M : Type 0} → Game P R M → ℕ → P → ℕ
lines_within r n p = lines r (plies r n p) p

-- those that go on after a move, with n moves of the attacker left
abbrev pub lines_after : {P R M : Type 0} → Game P R M → ℕ → P → M → ℕ
lines_after r n p m = lines_within r n (r.next p m)

-- the rules of the frame, as its attacker sees them
abbrev pub seen_in : Frame → Game Position Repeat Move
seen_in f = seen_by f.rules f.attacker
