use Rattle.std.proofs.Common.{rules}
use Rattle.square_set.proofs.BitLaws.{bit-minus}
use Rattle.square_set.proofs.Set.minus.Goals as goal

pub returns : goal.returns
returns c = λ t. bit-minus c.args.self.0 c.args.other.0 t (search rules) (search rules)
