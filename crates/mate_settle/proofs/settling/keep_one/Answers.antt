use Rattle.mate_settle.proofs.Settled.{decides-moved}
use Rattle.mate_settle.proofs.settling.keep_one.Goals as goal

pub by_one-fact-requires-clause-decides : goal.by_one-fact-requires-clause-decides
by_one-fact-requires-clause-decides c =
    decides-moved c.args.facts.now c.frame-2.result.now c.args.board.now.position c.position.result.now c.args.attacking c.args.moves c.args.chosen.now c.frame-2.ensures c.position.ensures c.requires.decides
