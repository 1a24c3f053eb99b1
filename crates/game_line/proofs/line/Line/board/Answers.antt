use Rattle.std.proofs.Common.{arith}
use Rattle.game_line.proofs.HeldLemmas.{line-stance}
use Rattle.game_line.proofs.line.Line.board.Goals as goal

pub returns : goal.returns
returns c =
    let i = c.self.inside in
    line-stance i.game.now i.moves.items i.room i.boards.items i.keys.items c.self.invariant.0 c.args.self.now c.self.view_is c.len.result c.index.result.now (omega arith) c.index.ensures
