use Rattle.std.proofs.Common.{arith}
use Rattle.suite.proofs.SlotLaws.{answers-more}
use Rattle.suite.proofs.solving.complete.Goals as goal

pub loop-at-preserved : goal.loop-at-preserved
loop-at-preserved g c = record {
  slots = c.in_ok-answer.ensures.slots;
  answers = rw c.in_ok-push.ensures.items (answers-more c.args.problems.now c.loop-at.answers.items c.loop-at.at c.in_ok-answer.answer (omega arith) c.loop-at.invariant.answers c.in_ok-answer.ensures.answer);
}
