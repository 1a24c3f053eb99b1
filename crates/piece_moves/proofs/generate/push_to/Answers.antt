use Rattle.std.proofs.Common.{sym, ◌∙◌}
use Rattle.std.proofs.lemmas.Result.{on_ok_weaker, on_err_weaker}
use Rattle.foundation.proofs.AppendedLemmas.{on_err}
use Rattle.piece_moves.proofs.PartLemmas.{to-all, to-first, to-none, to-second}
use Rattle.piece_moves.proofs.generate.push_to.Goals as goal

pub returns-then-means_castling-clause-ok : goal.returns-then-means_castling-clause-ok
returns-then-means_castling-clause-ok g c = to-none _ _ c.args.mover.piece _ _ _ g.met.S.MoveSink.law c.requires.mover.own (sym c.means_castling.ensures ∙ c.if-means_castling.true) _

pub returns-in_err-push_if-clause-err : goal.returns-in_err-push_if-clause-err
returns-in_err-push_if-clause-err g c =
    let stays = rw (c.becomes.ensures, c.may_plus-may.ensures, c.go.ensures) at c.in_err-push_if.ensures.err in
    on_err _ (to-first _ _ c.args.mover.piece _ _ _ g.met.S.MoveSink.law c.requires.mover.own (sym (c.requires.mover.goes c.args.to.0) ∙ c.requires.goes) (sym c.means_castling.ensures ∙ c.if-means_castling.false) (c.requires.mover.small c.args.to.0 c.requires.goes) _ _ stays)

pub returns-clause-ok : goal.returns-clause-ok
returns-clause-ok g c =
    let stays = rw (c.becomes.ensures, c.may_plus-may.ensures, c.go.ensures) at c.in_ok-push_if.ensures.ok in
    on_ok_weaker c.push_if-2.result
    (λ plus. to-all _ _ c.args.mover.piece _ _ _ g.met.S.MoveSink.law c.requires.mover.own (sym (c.requires.mover.goes c.args.to.0) ∙ c.requires.goes) (sym c.means_castling.ensures ∙ c.if-means_castling.false) (c.requires.mover.small c.args.to.0 c.requires.goes) _ _ _ stays (rw (c.becomes-2.ensures, c.may_plus-may.ensures, c.go-2.ensures) at plus))
    c.push_if-2.ensures.ok

pub returns-clause-err : goal.returns-clause-err
returns-clause-err g c =
    let stays = rw (c.becomes.ensures, c.may_plus-may.ensures, c.go.ensures) at c.in_ok-push_if.ensures.ok in
    on_err_weaker c.push_if-2.result
    (λ plus. to-second _ _ c.args.mover.piece _ _ _ g.met.S.MoveSink.law c.requires.mover.own (sym (c.requires.mover.goes c.args.to.0) ∙ c.requires.goes) (sym c.means_castling.ensures ∙ c.if-means_castling.false) (c.requires.mover.small c.args.to.0 c.requires.goes) _ _ _ stays (rw (c.becomes-2.ensures, c.may_plus-may.ensures, c.go-2.ensures) at plus))
    c.push_if-2.ensures.err
