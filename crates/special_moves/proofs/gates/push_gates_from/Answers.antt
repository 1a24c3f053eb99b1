use Rattle.piece_moves.proofs.TakingLemmas.{all-none}
use Rattle.rules_model.specs.Repeats.{repeat_of}
use Rattle.special_moves.proofs.GateLemmas.{none-there}
use Rattle.special_moves.proofs.gates.push_gates_from.Goals as goal

pub returns-in-None-clause-ok : goal.returns-in-None-clause-ok
returns-in-None-clause-ok g c = all-none g.met.S.MoveSink.law _ _ (none-there c.args.tables.now (repeat_of c.args.p.now) c.args.from c.in-None.ensures.none)

pub returns-in-Some-clause-ok : goal.returns-in-Some-clause-ok
returns-in-Some-clause-ok g c = rw (c.in-Some.ensures.from, c.rules.ensures.is) at c.push_gates_of.ensures.ok

pub returns-in-Some-clause-err : goal.returns-in-Some-clause-err
returns-in-Some-clause-err g c = rw (c.in-Some.ensures.from, c.rules.ensures.is) at c.push_gates_of.ensures.err
