use Rattle.std.proofs.Common.{◌≡◌, ◌+◌, length}
use Rattle.game_line.specs.Lined.{legal_in, story_of_line}
use Rattle.evaluation.specs.Values.{play, quiet, tree_size, value}
use Rattle.rules_model.specs.Games.{played}
use Rattle.negamax.specs.Settling.{Knows}
use Rattle.negamax.proofs.GoingLaws.{Going}
use Rattle.negamax.proofs.last_ply.last_ply.Given as goal

abbrev pub decreases-loop-best : goal.decreases-loop-best
decreases-loop-best g l = length l.state.waiting.items

abbrev pub invariant-loop-best : goal.invariant-loop-best
invariant-loop-best g l =
    let rules = l.fn.line.rules in
    let story = story_of_line l.fn.line in
    record {
      line : l.line ≡ l.fn.line;
      known : Knows l.fn.line l.settling;
      first : l.first ≡ length l.fn.state.waiting.items;
      going : Going g.W.Watch.gone (legal_in l.fn.line) (played rules story) (quiet (play rules) 4 (l.ply + 1))
          (tree_size rules 4) l.fn.state.waiting.items l.window.alpha l.window.beta (value (play rules) 1 l.ply story)
          (tree_size rules 5 story) l.fn.watch l.watch l.state.waiting.items l.best;
    }
