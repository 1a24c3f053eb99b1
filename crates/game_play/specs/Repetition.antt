-- Repeats that may not stand again, one by one.
use Rattle.std.specs.Prelude.{ℕ, ◌+◌, nat_le, Bool, not, ◌&&◌, List, map, take}
use Rattle.rules_model.specs.declared.board.Position.{Position}
use Rattle.rules_model.specs.Games.{times}
use Rattle.rules_model.specs.Repeats.{repeat_of}
use Rattle.forced_wins.specs.Wins.{is_in}

-- the position at the place is the first of its repeat, which has stood at least one time less than the fold says
abbrev pub opens : ℕ → List Position → ℕ → Position → Bool
opens fold positions at p =
    not (is_in (map repeat_of (take at positions)) (repeat_of p)) && nat_le fold (times (repeat_of p) positions + 1)
