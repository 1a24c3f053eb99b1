use Rattle.std.proofs.Common.{◌≡◌, length, ap, arith}
use Rattle.game_play.proofs.StandingLemmas.{first-is}
use Rattle.game_play.proofs.standings.Standings.is_first.Goals as goal

pub returns : goal.returns
returns c =
    let i = c.self.inside in
    let same : length i.positions.items ≡ length c.args.self.now = ap length c.self.view_is in
    rw (← c.self.view_is) (λ p. first-is i.positions.items i.counts.items c.args.at c.index.result.now p (omega arith) c.self.invariant.counted c.index.ensures)
