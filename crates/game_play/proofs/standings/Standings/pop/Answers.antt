use Rattle.std.proofs.Common.{◌≡◌, ◌+◌, ◌-◌, length, refl, ap, arith}
use Rattle.game_play.proofs.StandingLemmas.{standings-pop}
use Rattle.game_play.proofs.standings.Standings.pop.Goals as goal

pub invariant_of-self : goal.invariant_of-self
invariant_of-self c =
    let i = c.self.inside in
    let same : length i.positions.items ≡ length c.args.self.now = ap length c.self.view_is in
    let whole : length i.positions.items ≡ c.len-last.result - 1 + 1 = omega (arith, i.positions.ok.0, c.len-last.ensures) in
    standings-pop i.positions.items i.keys.items i.counts.items i.heads.items i.before.items c.self.invariant (c.len-last.result - 1) c.index-2.result.now c.slot_of.result c.index.result.now whole c.index-2.ensures c.slot_of.ensures.is c.index.ensures
    _ _ _ _ _ c.truncate.ensures.items c.truncate-2.ensures.items c.truncate-3.ensures.items refl c.truncate-4.ensures.items
