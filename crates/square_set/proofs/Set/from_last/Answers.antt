use Rattle.std.proofs.Common.{arith, rules}
use Rattle.std.proofs.lemmas.Nat.{or_lt}
use Rattle.square_set.proofs.BitLaws.{odd-pos, leading_small}
use Rattle.square_set.proofs.CoverLaws.{falling_cover}
use Rattle.square_set.proofs.Set.from_last.Goals as goal

pub overflow_sub-result : goal.overflow_sub-result
overflow_sub-result c = leading_small _ (odd-pos c.args.self.0) (or_lt 128 c.args.self.0 1 (search rules) (omega arith))

pub returns : goal.returns
returns c = falling_cover c.args.self (or_lt 128 c.args.self.0 1 (search rules) (omega arith))
