use Rattle.std.proofs.Common.{rules}
use Rattle.square_set.proofs.BitLaws.{bit-off}
use Rattle.square_set.proofs.Set.without_first.Goals as goal

pub returns : goal.returns
returns c = λ first is s. bit-off c.args.self.0 first s (search rules) is.member is.lowest
