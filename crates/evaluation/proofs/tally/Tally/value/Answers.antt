use Rattle.std.proofs.Common.{rules}
use Rattle.evaluation.proofs.PutLaws.{values}
use Rattle.evaluation.proofs.tally.Tally.value.Goals as goal

pub returns-in-White-clause-is : goal.returns-in-White-clause-is
returns-in-White-clause-is c = search rules

pub returns-in-Black-clause-is : goal.returns-in-Black-clause-is
returns-in-Black-clause-is c = search rules

pub returns-in-White-clause-of_positions : goal.returns-in-White-clause-of_positions
returns-in-White-clause-of_positions c = values c.args.self.now c.args.side _ (returns-in-White-clause-is c)

pub returns-in-Black-clause-of_positions : goal.returns-in-Black-clause-of_positions
returns-in-Black-clause-of_positions c = values c.args.self.now c.args.side _ (returns-in-Black-clause-is c)
