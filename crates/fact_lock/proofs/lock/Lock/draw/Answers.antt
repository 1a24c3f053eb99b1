use Rattle.std.proofs.Common.{rules, refl}
use Rattle.fact_lock.proofs.Keeps.{draws}
use Rattle.fact_lock.proofs.lock.Lock.draw.Goals as goal

pub compare_exchange-requires : goal.compare_exchange-requires
compare_exchange-requires g c = (search rules, search rules, draws _ _ _ _ _ _ _ _ (search rules) (search rules) refl (search rules))
