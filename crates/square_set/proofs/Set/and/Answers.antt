use Rattle.square_set.proofs.BitLaws.{bit-and}
use Rattle.square_set.proofs.Set.and.Goals as goal

pub returns : goal.returns
returns c = λ t. bit-and c.args.self.0 c.args.other.0 t
