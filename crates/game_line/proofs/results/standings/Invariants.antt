use Rattle.std.proofs.Common.{◌≡◌, ◌≤◌, take}
use Rattle.rules_model.specs.Games.{times}
use Rattle.rules_model.specs.Repeats.{repeat_of}
use Rattle.game_line.specs.Lined.{positions_of}
use Rattle.game_line.proofs.results.standings.Given as goal

abbrev pub invariant-loop-i : goal.invariant-loop-i
invariant-loop-i l = record {
  count : l.count ≡ times (repeat_of l.p) (take l.i (positions_of l.boards));
  few : l.count ≤ l.i;
}
