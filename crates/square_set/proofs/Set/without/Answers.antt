use Rattle.std.proofs.Common.{rules}
use Rattle.square_set.proofs.BitLaws.{bit-without}
use Rattle.square_set.proofs.Set.without.Goals as goal

pub returns : goal.returns
returns c = λ t. bit-without c.args.self.0 c.args.square t (search rules) c.requires
