use Rattle.std.proofs.Common.{ap, sym, ◌∙◌}
use Rattle.piece_moves.specs.Goals.{own_piece}
use Rattle.piece_moves.proofs.GoalLemmas.{there}
use Rattle.piece_moves.proofs.PartLemmas.{from-none}
use Rattle.piece_moves.proofs.generate.push_own.Goals as goal

pub targets-targets-requires-clause-own : goal.targets-targets-requires-clause-own
targets-targets-requires-clause-own g c = there c.args.tables.now c.args.p.now.side _ _ (sym c.cell_on.ensures ∙ c.in-Some.is) c.requires.own

pub push_mover-requires-clause-mover : goal.push_mover-requires-clause-mover
push_mover-requires-clause-mover g c = record {
  own = rw c.rules-rules.ensures.is (there c.args.tables.now c.args.p.now.side _ _ (sym c.cell_on.ensures ∙ c.in-Some.is) c.requires.own);
  from = c.requires.from;
  goes = rw c.rules-rules.ensures.is c.targets-targets.ensures.are;
  small = c.targets-targets.ensures.small;
}

pub returns-in-None-clause-ok : goal.returns-in-None-clause-ok
returns-in-None-clause-ok g c =
    from-none c.args.tables.now _ _ _ g.met.S.MoveSink.law _ (ap (own_piece c.args.tables.now c.args.p.now.side) (sym c.cell_on.ensures ∙ c.in-None.is))

pub returns-in-Some-clause-ok : goal.returns-in-Some-clause-ok
returns-in-Some-clause-ok g c = rw c.rules-rules.ensures.is at c.push_mover.ensures.ok

pub returns-in-Some-clause-err : goal.returns-in-Some-clause-err
returns-in-Some-clause-err g c = rw c.rules-rules.ensures.is at c.push_mover.ensures.err
