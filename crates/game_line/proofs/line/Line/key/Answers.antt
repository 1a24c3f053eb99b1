use Rattle.std.proofs.Common.{arith}
use Rattle.game_line.proofs.HeldLemmas.{line-key}
use Rattle.game_line.proofs.line.Line.key.Goals as goal

pub returns : goal.returns
returns c =
    let i = c.self.inside in
    line-key i.game.now i.moves.items i.room i.boards.items i.keys.items c.self.invariant.0 c.args.self.now c.self.view_is c.len.result _ (omega arith) c.index.ensures
