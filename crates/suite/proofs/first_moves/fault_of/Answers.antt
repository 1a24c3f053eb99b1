use Rattle.std.proofs.Common.{rules}
use Rattle.suite.proofs.KeyLaws.{fault-ended, fault-long, fault-near, fault-none}
use Rattle.suite.proofs.first_moves.fault_of.Goals as goal

pub returns-then-ne : goal.returns-then-ne
returns-then-ne c = fault-ended c.args.n c.args.game.now (search rules)

pub returns-then-is_counted : goal.returns-then-is_counted
returns-then-is_counted c = fault-near c.args.n c.args.game.now (search rules) (search rules)

pub returns-then-moves-gt-MOST_BEFORE : goal.returns-then-moves-gt-MOST_BEFORE
returns-then-moves-gt-MOST_BEFORE c = fault-long c.args.n c.args.game.now (search rules) (search rules) (search rules)

pub returns : goal.returns
returns c = fault-none c.args.n c.args.game.now (search rules) (search rules) (search rules)
