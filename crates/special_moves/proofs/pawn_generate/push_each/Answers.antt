use Rattle.std.proofs.lemmas.Result.{on_ok_weaker, on_err_weaker}
use Rattle.foundation.proofs.AppendedLemmas.{on_err}
use Rattle.piece_moves.proofs.TakingLemmas.{all-join, some-behind, some-within}
use Rattle.special_moves.proofs.PartLemmas.{from-apart, from-split, from-join, from-step, from-take}
use Rattle.special_moves.proofs.pawn_generate.push_each.Goals as goal

pub returns-in_err-push_steps-clause-err : goal.returns-in_err-push_steps-clause-err
returns-in_err-push_steps-clause-err g c = on_err _ (some-within g.S.MoveSink.stops _ _ _ _ c.in_err-push_steps.ensures.err (from-step _ _ _ c.requires.fit))

pub returns-clause-ok : goal.returns-clause-ok
returns-clause-ok g c =
    let fit = c.requires.fit in
    on_ok_weaker c.push_takes.result
    (λ takes. all-join g.met.S.MoveSink.law _ _ _ _ _ _ c.in_ok-push_steps.ensures.ok takes (from-apart _ _ _ fit) (from-split _ _ _) (from-join _ _ _ fit))
    c.push_takes.ensures.ok

pub returns-clause-err : goal.returns-clause-err
returns-clause-err g c =
    let fit = c.requires.fit in
    on_err_weaker c.push_takes.result
    (λ takes. some-behind g.met.S.MoveSink.law _ _ _ _ _ _ c.in_ok-push_steps.ensures.ok takes (from-apart _ _ _ fit) (from-step _ _ _ fit) (from-take _ _ _ fit))
    c.push_takes.ensures.err
