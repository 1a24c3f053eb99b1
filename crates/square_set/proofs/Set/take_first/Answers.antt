use Rattle.square_set.proofs.CountLaws.{count_below-without}
use Rattle.square_set.specs.Members.{has}
use Rattle.square_set.proofs.Set.take_first.Goals as goal

pub returns-clause-fewer : goal.returns-clause-fewer
returns-clause-fewer c = count_below-without (has c.args.self.now) (has c.without_first.result) 128 c.in_ok-first.first (c.without_first.ensures c.in_ok-first.first c.in_ok-first.ensures.some) c.in_ok-first.ensures.some.member c.in_ok-first.ensures.some.small
