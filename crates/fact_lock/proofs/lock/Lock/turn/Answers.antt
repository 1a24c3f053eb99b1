use Rattle.std.proofs.Common.{rules, Some, ap, sym, ◌∙◌, ◌∷◌}
use Rattle.atomic_table.specs.Table.{rest}
use Rattle.fact_lock.proofs.Keeps.{taken_is, put_in, counts_turn}
use Rattle.fact_lock.proofs.lock.Lock.turn.Goals as goal

pub exchange-requires : goal.exchange-requires
exchange-requires g c =
    let t = c.requires.turn in
    (search rules, (Some t.value, t.has ∙ ap (λ l. (0, Some t.value) ∷ rest l) (sym t.has)))

pub fetch_add-requires : goal.fetch_add-requires
fetch_add-requires g c =
    let t = c.requires.turn in
    let m = c.args.seat.now.me in
    let x = c.unwrap-value.result in
    let y = c.act-reply.new.self in
    let new = g.V.Journal.added (g.V.Journal.key x) (g.V.Journal.list x) c.args.op in
    let is = taken_is m t.value x c.exchange.result t.has c.exchange.ensures.2 c.unwrap-value.ensures in
    let put = put_in m c.exchange.new.seat.me c.exchange-left.new.seat.me t.value y t.has c.exchange.ensures.3 c.exchange-left.ensures.3 in (
      search rules,
      search rules,
      counts_turn g.V.Journal.key g.V.Journal.list _ _ _ m c.exchange-left.new.seat.me _ c.len-before.result c.len.result x y new t is put c.act-reply.ensures.list c.len-before.ensures.len c.len.ensures.len c.len.type_inv,
    )
