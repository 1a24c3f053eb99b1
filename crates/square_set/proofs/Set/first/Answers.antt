use Rattle.std.proofs.Common.{arith, rules}
use Rattle.square_set.proofs.BitLaws.{lowest}
use Rattle.square_set.proofs.Set.first.Goals as goal

pub returns-else-self-eq0-clause-some : goal.returns-else-self-eq0-clause-some
returns-else-self-eq0-clause-some c = lowest c.args.self (omega arith) (search rules)
