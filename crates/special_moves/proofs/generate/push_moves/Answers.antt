use Rattle.std.proofs.Common.{sym}
use Rattle.std.proofs.lemmas.Result.{on_ok_weaker, on_err_weaker}
use Rattle.foundation.proofs.AppendedLemmas.{on_err}
use Rattle.rules_model.specs.Repeats.{repeat_of}
use Rattle.special_moves.proofs.SpecialLemmas.{all-moves, some-castles, some-drops, some-gates, some-pawns}
use Rattle.special_moves.proofs.generate.push_moves.Goals as goal

pub returns-in_err-push_pawn_moves-clause-err : goal.returns-in_err-push_pawn_moves-clause-err
returns-in_err-push_pawn_moves-clause-err g c =
    let fit = rw (sym c.requires.tables) at c.requires.fit in
    rw (sym c.requires.tables) (on_err _ (some-pawns c.args.tables.now (repeat_of c.args.p.now) g.met.S.MoveSink.law fit _ _ c.in_err-push_pawn_moves.ensures.err))

pub returns-in_err-push_gates-clause-err : goal.returns-in_err-push_gates-clause-err
returns-in_err-push_gates-clause-err g c =
    let fit = rw (sym c.requires.tables) at c.requires.fit in
    rw (sym c.requires.tables)
    (on_err _ (some-gates c.args.tables.now (repeat_of c.args.p.now) g.met.S.MoveSink.law fit _ _ _ c.in_ok-push_pawn_moves.ensures.ok c.in_err-push_gates.ensures.err))

pub returns-in_err-push_castles-clause-err : goal.returns-in_err-push_castles-clause-err
returns-in_err-push_castles-clause-err g c =
    let fit = rw (sym c.requires.tables) at c.requires.fit in
    rw (sym c.requires.tables)
    (on_err _
    (some-castles c.args.tables.now (repeat_of c.args.p.now) g.met.S.MoveSink.law fit _ _ _ _ c.in_ok-push_pawn_moves.ensures.ok c.in_ok-push_gates.ensures.ok
    c.in_err-push_castles.ensures.err))

pub returns-clause-ok : goal.returns-clause-ok
returns-clause-ok g c =
    let fit = rw (sym c.requires.tables) at c.requires.fit in
    rw (sym c.requires.tables)
    (on_ok_weaker c.push_drops.result
    (λ all. all-moves c.args.tables.now (repeat_of c.args.p.now) g.met.S.MoveSink.law fit _ _ _ _ _ c.in_ok-push_pawn_moves.ensures.ok c.in_ok-push_gates.ensures.ok
    c.in_ok-push_castles.ensures.ok all)
    c.push_drops.ensures.ok)

pub returns-clause-err : goal.returns-clause-err
returns-clause-err g c =
    let fit = rw (sym c.requires.tables) at c.requires.fit in
    rw (sym c.requires.tables)
    (on_err_weaker c.push_drops.result
    (λ some. some-drops c.args.tables.now (repeat_of c.args.p.now) g.met.S.MoveSink.law fit _ _ _ _ _ c.in_ok-push_pawn_moves.ensures.ok c.in_ok-push_gates.ensures.ok
    c.in_ok-push_castles.ensures.ok some)
    c.push_drops.ensures.err)
