use Rattle.std.proofs.lemmas.Result.{on_ok_weaker, on_err_weaker}
use Rattle.foundation.proofs.AppendedLemmas.{on_err}
use Rattle.legality.proofs.CandidateParts.{candidates-all, candidates-first, candidates-second}
use Rattle.legality.proofs.candidates.push_candidates.Goals as goal

pub returns-in_err-push_moves-clause-err : goal.returns-in_err-push_moves-clause-err
returns-in_err-push_moves-clause-err g c = on_err _ (candidates-first g.met.S.MoveSink.law _ _ c.rules-rules.ensures.is _ _ _ c.in_err-push_moves.ensures.err)

pub returns-clause-ok : goal.returns-clause-ok
returns-clause-ok g c =
    on_ok_weaker c.push_moves-2.result (λ all. candidates-all g.met.S.MoveSink.law _ _ c.rules-rules.ensures.is _ _ _ _ c.in_ok-push_moves.ensures.ok all) c.push_moves-2.ensures.ok

pub returns-clause-err : goal.returns-clause-err
returns-clause-err g c =
    on_err_weaker c.push_moves-2.result (λ some. candidates-second g.met.S.MoveSink.law _ _ c.rules-rules.ensures.is _ _ _ _ c.in_ok-push_moves.ensures.ok some) c.push_moves-2.ensures.err
