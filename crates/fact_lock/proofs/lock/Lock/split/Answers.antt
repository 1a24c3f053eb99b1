use Rattle.std.proofs.Common.{rules}
use Rattle.fact_lock.proofs.Keeps.{splits}
use Rattle.fact_lock.proofs.lock.Lock.split.Goals as goal

pub split_seat-given-requires : goal.split_seat-given-requires
split_seat-given-requires g c = (search rules, search rules, splits _ _ _ _ _ c.pass.invariant.rests (search rules))
