use Rattle.std.proofs.Common.{Err, sym, ap, ◌∙◌}
use Rattle.strategy.proofs.ReadLemmas.{step-long}
use Rattle.strategy.proofs.reader.Reader.fault_of_long_line.Goals as goal

pub returns : goal.returns
returns c = λ rules. step-long rules c.args.self.now ∙ ap Err (sym c.long_fault.ensures)
