use Rattle.std.proofs.Common.{inl, inr}
use Rattle.std.proofs.lemmas.Result.{on_ok_weaker, on_err_weaker}
use Rattle.foundation.proofs.AppendedLemmas.{on_err}
use Rattle.piece_moves.proofs.TakingLemmas.{all-join, some-behind, some-within}
use Rattle.special_moves.proofs.PartLemmas.{step-apart}
use Rattle.special_moves.proofs.pawn_generate.push_steps.Goals as goal

pub returns-in_err-push_one_step-clause-err : goal.returns-in_err-push_one_step-clause-err
returns-in_err-push_one_step-clause-err g c = on_err _ (some-within g.S.MoveSink.stops _ _ _ _ c.in_err-push_one_step.ensures.err (λ m h. inl h))

pub returns-clause-ok : goal.returns-clause-ok
returns-clause-ok g c =
    on_ok_weaker c.push_two_steps.result
    (λ two. all-join g.met.S.MoveSink.law _ _ _ _ _ _ c.in_ok-push_one_step.ensures.ok two (step-apart _ _ _ c.requires.fit) (λ m h. h) (λ m h. h))
    c.push_two_steps.ensures.ok

pub returns-clause-err : goal.returns-clause-err
returns-clause-err g c =
    on_err_weaker c.push_two_steps.result
    (λ two. some-behind g.met.S.MoveSink.law _ _ _ _ _ _ c.in_ok-push_one_step.ensures.ok two (step-apart _ _ _ c.requires.fit) (λ m h. inl h) (λ m h. inr h))
    c.push_two_steps.ensures.err
