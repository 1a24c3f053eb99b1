use Rattle.square_set.proofs.BitLaws.{bit-with}
use Rattle.square_set.proofs.Set.with.Goals as goal

pub returns : goal.returns
returns c = λ t. bit-with c.args.self.0 c.args.square t c.requires
