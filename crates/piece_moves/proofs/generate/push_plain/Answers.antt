use Rattle.std.proofs.lemmas.Result.{on_ok_weaker, on_err_weaker}
use Rattle.attack_tables.proofs.AlikeLaws.{holds}
use Rattle.piece_moves.proofs.PlainLemmas.{plain-all, plain-none, plain-some}
use Rattle.piece_moves.proofs.generate.push_plain.Goals as goal

pub take_all-requires-clause-from : goal.take_all-requires-clause-from
take_all-requires-clause-from g c = c.requires.mover.from

pub take_all-requires-clause-targets : goal.take_all-requires-clause-targets
take_all-requires-clause-targets g c = c.requires.mover.small

pub returns-then-is_empty-clause-ok : goal.returns-then-is_empty-clause-ok
returns-then-is_empty-clause-ok g c =
    plain-none c.args.rules.now _ c.args.mover.piece _ _ _ c.requires.plain c.requires.mover.own c.requires.mover.goes g.met.S.MoveSink.law _
    (holds c.is_empty.result c.if-is_empty.true c.is_empty.ensures.empty)

pub returns-clause-ok : goal.returns-clause-ok
returns-clause-ok g c =
    on_ok_weaker c.take_all.result
    (λ all. plain-all c.args.rules.now _ c.args.mover.piece _ _ _ c.requires.plain c.requires.mover.own c.requires.mover.goes _ _ _ c.requires.mover.small all)
    c.take_all.ensures.ok

pub returns-clause-err : goal.returns-clause-err
returns-clause-err g c =
    on_err_weaker c.take_all.result
    (λ some. plain-some c.args.rules.now _ c.args.mover.piece _ _ _ c.requires.plain c.requires.mover.own c.requires.mover.goes _ _ _ c.requires.mover.small some)
    c.take_all.ensures.err
