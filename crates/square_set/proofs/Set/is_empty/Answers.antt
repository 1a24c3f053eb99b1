use Rattle.std.proofs.Common.{◌<◌, ◌==◌, rules}
use Rattle.std.specs.Bool.{OnFalse}
use Rattle.square_set.proofs.Cases.{by_equal}
use Rattle.square_set.proofs.CountLaws.{size-pos}
use Rattle.square_set.specs.Members.{size}
use Rattle.square_set.proofs.Set.is_empty.Goals as goal

pub returns-clause-not_empty : goal.returns-clause-not_empty
returns-clause-not_empty c =
    by_equal c.args.self.0 0 (OnFalse (c.args.self.0 == 0) (0 < size c.args.self)) (λ e q. rw e tt) (λ e q. rw e (size-pos c.args.self q (search rules)))
