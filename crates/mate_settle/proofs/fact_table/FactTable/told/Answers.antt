use Rattle.std.proofs.Common.{sym, subst}
use Rattle.mate_settle.specs.Tellings.{IsTold}
use Rattle.mate_settle.proofs.Settled.{tells}
use Rattle.mate_settle.proofs.fact_table.FactTable.told.Goals as goal

pub returns-in-Some : goal.returns-in-Some
returns-in-Some c =
    subst (IsTold c.args.self.now c.args.board.now.position c.args.moves) (sym c.of.ensures)
    (tells c.args.self.now c.in-Some.fact.now c.args.board.now.position c.args.moves c.in-Some.ensures.truth c.in-Some.ensures.serves)
