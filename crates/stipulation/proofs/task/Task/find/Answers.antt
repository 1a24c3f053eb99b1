use Rattle.stipulation.proofs.SearchLemmas.{find-yes, find-no}
use Rattle.stipulation.proofs.task.Task.find.Goals as goal

pub returns-then-branch : goal.returns-then-branch
returns-then-branch c = record {
  found =
      find-yes c.args.self.now c.new-line.result c.args.plies c.new.result.items c.search.new.steps c.in_ok-search.field-0 c.new-line.ensures c.new.ensures.items c.in_ok-search.ensures.found c.if-branch.true;
  task = c.in_ok-search.ensures.task;
}

pub returns : goal.returns
returns c = record {
  found =
      find-no c.args.self.now c.new-line.result c.args.plies c.new.result.items c.search.new.steps c.in_ok-search.field-0 c.new-line.ensures c.in_ok-search.ensures.found c.if-branch.false;
  task = c.in_ok-search.ensures.task;
}
