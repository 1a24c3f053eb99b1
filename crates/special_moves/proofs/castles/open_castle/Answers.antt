use Rattle.std.proofs.Common.{sym}
use Rattle.attack_tables.proofs.AlikeLaws.{holds}
use Rattle.special_moves.proofs.castles.open_castle.Goals as goal

pub returns-then-is_blocked-clause-is : goal.returns-then-is_blocked-clause-is
returns-then-is_blocked-clause-is c = sym (rw c.rules-rules.ensures.is at (holds c.is_blocked.result c.if-is_blocked.true c.is_blocked.ensures))
