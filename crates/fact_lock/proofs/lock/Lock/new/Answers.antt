use Rattle.fact_lock.proofs.Keeps.{opens}
use Rattle.fact_lock.proofs.lock.Lock.new.Goals as goal

pub new-requires : goal.new-requires
new-requires g c =
    opens g.V.Journal.key g.V.Journal.list c.args.value c.of-first.result.value c.len-entries.result c.in_ok-slots.slots.items c.push_reserved.new.self.items
    c.of-first.ensures c.len-entries.ensures.len c.in_ok-slots.ensures.items c.push_reserved.ensures.items
