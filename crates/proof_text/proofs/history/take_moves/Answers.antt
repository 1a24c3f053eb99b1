use Rattle.std.proofs.Common.{arith}
use Rattle.std.proofs.lemmas.Result.{err_from_is_err_and}
use Rattle.proof_text.specs.Reading.{moves_on}
use Rattle.proof_text.specs.TakingView.{HasWhy}
use Rattle.proof_text.proofs.ReadingLemmas.{loop-fault, loop-first, loop-last, loop-next}
use Rattle.proof_text.proofs.history.take_moves.Goals as goal

pub loop-done-init : goal.loop-done-init
loop-done-init g c = record { goes = loop-first moves_on c.args.count c.args.number _ c.args.game.now; later = omega arith }

pub returns-in_err-take_move-clause-reads : goal.returns-in_err-take_move-clause-reads
returns-in_err-take_move-clause-reads g c =
    let p = err_from_is_err_and c.from_residual.result c.from_residual.ensures.1 in
    rw (p.1, p.2) (loop-fault moves_on c.args.count c.args.number _ _ _ _ c.loop-done.done c.loop-done.game (λ said. HasWhy said c.in_err-take_move.field-0.0) c.loop-done-test.true c.loop-done.invariant.goes c.in_err-take_move.ensures.reads)

pub returns-in_err-take_move-clause-cause : goal.returns-in_err-take_move-clause-cause
returns-in_err-take_move-clause-cause g c =
    let p = err_from_is_err_and c.from_residual.result c.from_residual.ensures.1 in
    rw (p.1, p.2) (record {
      later = omega arith;
      failed = λ unread. let rose = c.in_err-take_move.ensures.cause.failed unread in let before = c.loop-done.invariant.later in omega (arith, rose, before);
    })

pub loop-done-preserved : goal.loop-done-preserved
loop-done-preserved g c = record {
  goes = loop-next moves_on c.args.count c.args.number _ _ _ _ c.loop-done.done c.loop-done.game c.take_move.new.game c.loop-done-test.true c.loop-done.invariant.goes c.in_ok-take_move.ensures.reads;
  later = omega arith;
}

pub returns-clause-reads : goal.returns-clause-reads
unfolding moves_on
returns-clause-reads g c = loop-last moves_on c.args.count c.args.number _ _ _ c.loop-done.done c.loop-done.game c.loop-done-test.false (omega arith) c.loop-done.invariant.goes
