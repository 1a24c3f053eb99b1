use Rattle.std.proofs.Common.{◌≡◌, ◌+◌, ◌*◌, ◌≤◌, length, take}
use Rattle.std.specs.Prelude.{ℤ, pos, negsuc}
use Rattle.game_line.specs.Lined.{story_of_line}
use Rattle.evaluation.specs.Laws.{Within}
use Rattle.evaluation.specs.Values.{greatest}
use Rattle.negamax.specs.RootFacts.{Chooses, score_of}
use Rattle.negamax.specs.Windows.{Bounds}
use Rattle.alpha_beta.specs.Roots.{root_lines}
use Rattle.alpha_beta.specs.Workers.{most_nodes}
use Rattle.alpha_beta.proofs.settling.settle_all.Given as goal

abbrev pub invariant-loop-m : goal.invariant-loop-m
invariant-loop-m g l =
    let rules = l.fn.line.rules in
    let story = story_of_line l.fn.line in
    record {
      line : l.line ≡ l.fn.line;
      within : Within l.best.value;
      bounds : (v : ℤ) → Bounds (negsuc 32001) (pos 32002) l.fn.first.value v
          → Bounds (negsuc 32001) (pos 32002) l.best.value (greatest v (score_of rules l.depth 0 story) (take l.m-index l.moves));
      chosen : Chooses rules l.depth 0 story (negsuc 32001) l.moves l.fn.first l.best;
      few : most_nodes 0 l.jobs ≤ most_nodes 0 l.fn.jobs + root_lines rules l.depth story (take l.m-index l.moves);
      count : length l.jobs ≡ length l.fn.jobs;
      gone : g.W.Watch.gone l.fn.watch l.watch (2 * root_lines rules l.depth story (take l.m-index l.moves));
    }
