use Rattle.std.proofs.Common.{◌≡◌, take}
use Rattle.std.specs.List.{All}
use Rattle.foundation.specs.Member.{Member}
use Rattle.game_line.specs.Lined.{legal_in, story_of_line}
use Rattle.negamax.specs.Trials.{Entered}
use Rattle.alpha_beta.specs.Roots.{root_lines}
use Rattle.alpha_beta.specs.Workers.{AreTrueFacts, lines_after}
use Rattle.alpha_beta.proofs.taking.take_free.Given as goal

abbrev pub invariant-loop-i : goal.invariant-loop-i
invariant-loop-i g l =
    let line = l.plan.line.now in
    record {
      line_is : l.line ≡ line;
      known : AreTrueFacts l.plan l.facts.items;
      legal : All (λ o. Member o.chosen (legal_in line)) l.others.items;
      entered : Entered g.W.Watch.gone l.fn.watch l.watch (λ o. lines_after l.plan o.chosen) l.others.items
          (root_lines line.rules l.plan.depth (story_of_line line) (take l.i l.plan.moves.now));
    }
