use Rattle.std.proofs.Common.{◌≡◌, ◌+◌, nat_le, map, take}
use Rattle.std.specs.List.{filter}
use Rattle.rules_model.specs.Games.{times}
use Rattle.rules_model.specs.Repeats.{repeat_of}
use Rattle.forced_wins.specs.Wins.{each_once}
use Rattle.game_play.proofs.repetition.blocked_by.Given as goal

abbrev pub invariant-loop-at : goal.invariant-loop-at
invariant-loop-at l = l.items.items ≡ filter (λ x. nat_le l.fold (times x l.standings + 1)) (each_once (map repeat_of (take l.at l.standings)))
