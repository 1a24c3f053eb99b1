use Rattle.std.proofs.lemmas.Result.{on_ok_weaker, on_err_weaker}
use Rattle.piece_moves.proofs.PartLemmas.{whole-all, whole-some}
use Rattle.piece_moves.proofs.generate.push_moves.Goals as goal

pub returns-clause-ok : goal.returns-clause-ok
returns-clause-ok g c =
    on_ok_weaker c.push_moves_from.result
    (λ a. whole-all _ _ _ (c.own_pieces.ensures.are _ _ _ c.requires.sets) g.S.MoveSink.takes _ _ (rw c.requires.tables at a))
    c.push_moves_from.ensures.ok

pub returns-clause-err : goal.returns-clause-err
returns-clause-err g c =
    on_err_weaker c.push_moves_from.result
    (λ a. whole-some _ _ _ g.S.MoveSink.stops _ _ (rw c.requires.tables at a))
    c.push_moves_from.ensures.err
