use Rattle.strategy.proofs.MoveLemmas.{named_said}
use Rattle.strategy.proofs.reader.move_of.Goals as goal

pub returns : goal.returns
returns c = named_said c.args.rules.now c.args.p.now c.args.text.now c.read_move.result c.requires.fit c.requires.sound c.read_move.ensures.named c.read_move.ensures.nothing
