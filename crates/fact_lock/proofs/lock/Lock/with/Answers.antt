use Rattle.std.proofs.Common.{rules, ap, ◌∙◌}
use Rattle.fact_lock.proofs.Keeps.{passes}
use Rattle.fact_lock.proofs.lock.Lock.with.Goals as goal

pub fetch_add-requires : goal.fetch_add-requires
fetch_add-requires g c =
    let key =
    ap (λ v. v.key) c.turn-reply.ensures.added ∙ ap (λ m. m.0.key) c.wait.ensures.served.now ∙ ap (λ m. m.0.key) c.draw-ticket.ensures.drawn
    ∙ ap (λ p. p.key) c.pass.view_is ∙ c.requires.lock.1 in
    (search rules, search rules, passes g.V.Journal.key g.V.Journal.list _ _ _ _ c.args.self.now.key (search rules) key c.turn-reply.ensures.turn)
