use Rattle.std.proofs.Common.{sym, ◌∙◌}
use Rattle.std.proofs.lemmas.Result.{on_ok_weaker, on_err_weaker}
use Rattle.piece_moves.proofs.TakingLemmas.{all-none, all-same, some-within}
use Rattle.special_moves.proofs.GoalLemmas.{two_goes_then, two_passes}
use Rattle.special_moves.proofs.PartLemmas.{some-none, some-at, at-some, two-none}
use Rattle.special_moves.proofs.pawn_generate.push_two_steps.Goals as goal

pub returns-then-not-may_step_twice-clause-ok : goal.returns-then-not-may_step_twice-clause-ok
returns-then-not-may_step_twice-clause-ok g c =
    all-none g.met.S.MoveSink.law _ _ (two-none _ _ _ c.requires.fit (sym c.may_step_twice.ensures ∙ c.if-not-may_step_twice.true))

pub returns-in-None-clause-ok : goal.returns-in-None-clause-ok
returns-in-None-clause-ok g c = all-none g.met.S.MoveSink.law _ _ (some-none _ _ _ _ (sym (rw c.board_of.ensures at c.in-None.ensures.is)))

pub push_to-requires-clause-goes : goal.push_to-requires-clause-goes
push_to-requires-clause-goes g c =
    c.is_free-goes.ensures
    ∙ sym (two_goes_then _ _ c.args.from c.requires.fit _ (sym (rw c.board_of.ensures at c.in-Some.ensures.is)) (sym c.may_step_twice.ensures ∙ c.if-not-may_step_twice.false))

pub push_to-requires-clause-passes : goal.push_to-requires-clause-passes
push_to-requires-clause-passes g c = sym (two_passes _ _ c.args.from c.requires.fit _ (sym (rw c.board_of.ensures at c.in-Some.ensures.is)))

pub returns-in-Some-clause-ok : goal.returns-in-Some-clause-ok
returns-in-Some-clause-ok g c =
    let target = sym (rw c.board_of.ensures at c.in-Some.ensures.is) in
    on_ok_weaker c.push_to.result (λ all. all-same g.S.MoveSink.takes _ _ _ _ all (some-at _ _ _ _ _ target) (at-some _ _ _ _ _ target)) c.push_to.ensures.ok

pub returns-in-Some-clause-err : goal.returns-in-Some-clause-err
returns-in-Some-clause-err g c =
    let target = sym (rw c.board_of.ensures at c.in-Some.ensures.is) in
    on_err_weaker c.push_to.result (λ some. some-within g.S.MoveSink.stops _ _ _ _ some (some-at _ _ _ _ _ target)) c.push_to.ensures.err
