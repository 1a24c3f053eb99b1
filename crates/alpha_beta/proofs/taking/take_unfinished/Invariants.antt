use Rattle.std.proofs.Common.{◌≡◌, sum_by, take}
use Rattle.alpha_beta.specs.Workers.{AreTrueFacts, lines_after}
use Rattle.alpha_beta.proofs.taking.take_unfinished.Given as goal

abbrev pub invariant-loop-other : goal.invariant-loop-other
invariant-loop-other g l = record {
  line_is : l.line ≡ l.plan.line.now;
  known : AreTrueFacts l.plan l.facts.items;
  gone : g.W.Watch.gone l.fn.watch l.watch (sum_by (λ o. lines_after l.plan o.chosen) (take l.other-index l.others));
}
