use Rattle.std.proofs.Common.{true, arith}
use Rattle.mate_settle.proofs.Settled.{decides-moved}
use Rattle.mate_settle.proofs.last_replies.keep_last.Goals as goal

pub by_move_within-fact-requires : goal.by_move_within-fact-requires
by_move_within-fact-requires c =
    let is = decides-moved c.args.facts.now c.frame.result.now c.args.board.now.position c.position.result.now true 0 c.args.chosen.now c.frame.ensures c.position.ensures c.requires.wins in
    record {
      attack = record { ongoing = is.ongoing; turn = is.turn };
      legal = is.legal;
      won = is.after;
      short = omega arith;
    }
