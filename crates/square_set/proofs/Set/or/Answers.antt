use Rattle.square_set.proofs.BitLaws.{bit-or}
use Rattle.square_set.proofs.Set.or.Goals as goal

pub returns : goal.returns
returns c = λ t. bit-or c.args.self.0 c.args.other.0 t
