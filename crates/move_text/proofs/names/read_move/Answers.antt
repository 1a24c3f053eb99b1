use Rattle.move_text.proofs.ReadLaws.{said_named, said_nothing}
use Rattle.move_text.proofs.names.read_move.Goals as goal

pub returns-clause-named : goal.returns-clause-named
returns-clause-named c = said_named c.args.rules.now c.args.p.now c.args.text.now c.said.result c.requires.fit c.requires.sound c.said.ensures

pub returns-clause-nothing : goal.returns-clause-nothing
returns-clause-nothing c = said_nothing c.args.rules.now c.args.p.now c.args.text.now c.said.result c.requires.fit c.requires.sound c.said.ensures
