use Rattle.std.proofs.Common.{◌-◌, ◌^◌}
use Rattle.game_play.proofs.PerftLemmas.{perft-last}
use Rattle.game_play.proofs.game.Game.perft.Goals as goal

pub returns-then-plies-eq1 : goal.returns-then-plies-eq1
returns-then-plies-eq1 c =
    let count = rw c.tables-tables.ensures at c.count_moves.ensures in
    perft-last c.args.self.now.rules c.args.plies _ _ _ (2 ^ 128 - 1) c.if-plies-eq1.true c.position-p.ensures.is count
