use Rattle.std.proofs.Common.{rules}
use Rattle.square_set.proofs.CoverLaws.{rising_cover}
use Rattle.square_set.proofs.Set.up_to_first.Goals as goal

pub returns : goal.returns
returns c = rising_cover c.args.self (search rules)
