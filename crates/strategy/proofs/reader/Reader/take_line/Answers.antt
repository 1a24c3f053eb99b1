use Rattle.std.proofs.Common.{arith}
use Rattle.strategy.proofs.SoundLemmas.{text-keeps}
use Rattle.strategy.proofs.reader.Reader.take_line.Goals as goal

pub overflow_add-self : goal.overflow_add-self
overflow_add-self c =
    let line = (text-keeps c.args.rules.now c.args.self.now c.take_text.new.self c.args.text.now c.requires.fit c.requires.sound c.in_ok-take_text.ensures).1 in
    omega (arith, line, c.if-self.false)

pub returns-clause-sound : goal.returns-clause-sound
returns-clause-sound c = (text-keeps c.args.rules.now c.args.self.now c.take_text.new.self c.args.text.now c.requires.fit c.requires.sound c.in_ok-take_text.ensures).0
