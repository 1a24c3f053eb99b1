use Rattle.std.proofs.Common.{◌≡◌, sum_by, take}
use Rattle.std.specs.Prelude.{ℤ}
use Rattle.game_line.specs.Lined.{story_of_line}
use Rattle.evaluation.specs.Laws.{Within}
use Rattle.evaluation.specs.Values.{greatest}
use Rattle.negamax.specs.RootFacts.{Chooses, root_tree, score_of}
use Rattle.negamax.specs.Windows.{Bounds}
use Rattle.negamax.proofs.root.combine.Given as goal

abbrev pub invariant-loop-m : goal.invariant-loop-m
invariant-loop-m g l =
    let rules = l.fn.line.rules in
    let story = story_of_line l.fn.line in
    record {
      line : l.line ≡ l.fn.line;
      within : Within l.best.value;
      bounds : (v : ℤ) → Bounds l.window.alpha l.window.beta l.fn.first.value v
          → Bounds l.window.alpha l.window.beta l.best.value (greatest v (score_of rules l.depth l.ply story) (take l.m-index l.moves));
      chosen : Chooses rules l.depth l.ply story l.window.alpha l.moves l.fn.first l.best;
      gone : g.W.Watch.gone l.fn.watch l.watch (sum_by (root_tree rules l.depth story) (take l.m-index l.moves));
    }
