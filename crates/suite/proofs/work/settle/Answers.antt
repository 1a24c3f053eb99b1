use Rattle.std.proofs.lemmas.List.Elements.{All-push}
use Rattle.suite.specs.Workers.{IsFound}
use Rattle.suite.proofs.SlotLaws.{answer-at}
use Rattle.suite.proofs.work.settle.Goals as goal

pub returns : goal.returns
returns g c = record {
  found = rw c.in_ok-push.ensures.items (All-push (IsFound c.args.problems.now) _ _ c.requires.found (record { answer = answer-at c.args.problems.now c.args.at c.index-problems-at.result c.in_ok-answer.answer c.index-problems-at.is c.in_ok-answer.ensures }));
}
