use Rattle.std.proofs.Common.{◌≡◌, ◌+◌, ◌-◌, ◌*◌, length}
use Rattle.game_line.specs.Lined.{legal_in, story_of_line}
use Rattle.evaluation.specs.Values.{play, quiet, tree_size}
use Rattle.rules_model.specs.Games.{played}
use Rattle.negamax.specs.Settling.{Knows}
use Rattle.negamax.proofs.GoingLaws.{Going}
use Rattle.negamax.proofs.quiescence.+quiescence.Given as goal

abbrev pub decreases-quiescence : goal.decreases-quiescence
decreases-quiescence g l = 2 * l.limit + 1

abbrev pub decreases-settle_or_search : goal.decreases-settle_or_search
decreases-settle_or_search g l = 2 * l.limit + 2

abbrev pub decreases-quiescence-loop-best : goal.decreases-quiescence-loop-best
decreases-quiescence-loop-best g l = length l.state.waiting.items

abbrev pub invariant-quiescence-loop-best : goal.invariant-quiescence-loop-best
invariant-quiescence-loop-best g l =
    let rules = l.fn.line.rules in
    let story = story_of_line l.fn.line in
    record {
      line : l.line ≡ l.fn.line;
      known : Knows l.fn.line l.settling;
      first : l.first ≡ length l.fn.state.waiting.items;
      going : Going g.W.Watch.gone (legal_in l.fn.line) (played rules story) (quiet (play rules) (l.limit - 1) (l.ply + 1))
          (tree_size rules (l.limit - 1)) l.fn.state.waiting.items l.window.alpha l.window.beta (quiet (play rules) l.limit l.ply story)
          (tree_size rules l.limit story) l.fn.watch l.watch l.state.waiting.items l.best;
    }
