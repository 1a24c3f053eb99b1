use Rattle.std.proofs.Common.{subst, arith}
use Rattle.strategy.specs.Reading as Reading
use Rattle.strategy.proofs.CappedLemmas.{text-said}
use Rattle.strategy.proofs.reader.Reader.take_text.Goals as goal

pub returns-else-self-eq3 : goal.returns-else-self-eq3
returns-else-self-eq3 c =
    let is = text-said c.args.rules.now c.args.self.now c.args.text.now _ c.read_said.ensures (omega arith) (omega arith) c.if-self.false c.if-self-eq1.false c.if-self-eq2.false c.if-self-eq3.false in
    subst (λ said. Reading.Takes said c.args.self.now c.take_said.new.self c.take_said.result) is c.take_said.ensures
