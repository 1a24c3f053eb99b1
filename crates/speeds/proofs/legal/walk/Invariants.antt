use Rattle.std.proofs.Common.{◌≡◌}
use Rattle.speeds.proofs.legal.walk.Given as goal

abbrev pub invariant-loop : goal.invariant-loop
invariant-loop l = l.board.rules ≡ l.tables
