use Rattle.std.proofs.Common.{rules, ap, ◌∙◌}
use Rattle.fact_lock.proofs.Keeps.{joins, settles}
use Rattle.fact_lock.proofs.Sums.{apart_by_times}
use Rattle.fact_lock.proofs.lock.Lock.join.Goals as goal

pub join_seat-requires : goal.join_seat-requires
join_seat-requires g c = (search rules, search rules, c.b.invariant.empty, search rules, joins _ _ _ _ _ _ _ c.a.invariant.rests c.b.invariant.rests c.a.invariant.parts)

pub load-requires : goal.load-requires
load-requires g c = (search rules, search rules, settles _ _ _ _ _ _ _ (ap (λ m. m.0.stage) c.join_seat.ensures.2 ∙ c.a.invariant.rests))

pub returns-clause-apart : goal.returns-clause-apart
returns-clause-apart g c =
    rw (← c.a.view_is, ← c.b.view_is)
    (apart_by_times c.a.inside.seat.me.0.own c.b.inside.seat.me.0.own
    (λ p. rw (ap (λ m. m.0.own) c.join_seat.ensures.2) at (c.load.ensures.2.3 p)))
