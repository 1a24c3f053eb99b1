use Rattle.std.proofs.Common.{rules, ap, ◌∙◌}
use Rattle.fact_lock.proofs.Keeps.{looks}
use Rattle.fact_lock.proofs.lock.Lock.wait.Goals as goal

pub load-requires : goal.load-requires
load-requires g c = (search rules, search rules, looks _ _ _ _ _ _ _ (ap (λ m. m.0.stage) c.loop.invariant.2 ∙ c.requires.waits))

pub loop-preserved : goal.loop-preserved
loop-preserved g c =
    let i = c.loop.invariant in
    let e = c.load.ensures in
    (e.0 ∙ i.0, e.1 ∙ i.1, (e.2 c.args.ticket (ap (λ m. m.0.stage) i.2 ∙ c.requires.waits)).1 c.if-load-ticket.false ∙ i.2)
