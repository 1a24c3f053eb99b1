use Rattle.std.proofs.lemmas.Result.{on_ok_weaker, on_err_weaker}
use Rattle.piece_moves.proofs.TakingLemmas.{not-wanted, wanted-all, wanted-some}
use Rattle.piece_moves.proofs.move_sink.push_if.Goals as goal

pub returns-then-wanted-clause-ok : goal.returns-then-wanted-clause-ok
returns-then-wanted-clause-ok g c = on_ok_weaker c.take.result (λ is. wanted-all _ _ _ _ _ c.if-wanted.true is) c.take.ensures.ok

pub returns-then-wanted-clause-err : goal.returns-then-wanted-clause-err
returns-then-wanted-clause-err g c = on_err_weaker c.take.result (λ some. wanted-some _ _ _ _ _ c.if-wanted.true some) c.take.ensures.err

pub returns-else-wanted-clause-ok : goal.returns-else-wanted-clause-ok
returns-else-wanted-clause-ok g c = not-wanted g.met.S.MoveSink.law _ _ _ c.if-wanted.false
