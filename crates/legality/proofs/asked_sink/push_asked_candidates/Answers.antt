use Rattle.std.proofs.Common.{refl}
use Rattle.std.proofs.lemmas.Result.{on_ok_weaker, on_err_weaker}
use Rattle.foundation.proofs.AppendedLemmas.{on_err}
use Rattle.legality.proofs.AskedLaws.{asked_sink}
use Rattle.legality.proofs.AskedSquaresLaws.{pieces_all, pieces_some}
use Rattle.legality.proofs.CandidateParts.{candidates-all, candidates-first, candidates-second}
use Rattle.legality.proofs.asked_sink.push_asked_candidates.Goals as goal

pub returns-in_err-push_moves_from-clause-err : goal.returns-in_err-push_moves_from-clause-err
returns-in_err-push_moves_from-clause-err c =
    on_err _ (candidates-first asked_sink _ _ refl _ _ _ (pieces_some c.args.out.now c.asked_squares-from.result _ c.in_err-push_moves_from.ensures.err))

pub returns-clause-ok : goal.returns-clause-ok
returns-clause-ok c =
    let pieces = pieces_all c.args.out.now c.asked_squares-from.result c.asked_squares-from.ensures _ c.in_ok-push_moves_from.ensures.ok in
    on_ok_weaker c.push_moves.result (λ all. candidates-all asked_sink _ _ refl _ _ _ _ pieces (rw c.rules.ensures.is at all)) c.push_moves.ensures.ok

pub returns-clause-err : goal.returns-clause-err
returns-clause-err c =
    let pieces = pieces_all c.args.out.now c.asked_squares-from.result c.asked_squares-from.ensures _ c.in_ok-push_moves_from.ensures.ok in
    on_err_weaker c.push_moves.result (λ some. candidates-second asked_sink _ _ refl _ _ _ _ pieces (rw c.rules.ensures.is at some)) c.push_moves.ensures.err
