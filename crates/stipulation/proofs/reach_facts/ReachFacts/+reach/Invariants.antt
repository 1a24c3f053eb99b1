use Rattle.std.proofs.Common.{◌≡◌, ◌+◌, ◌*◌, not, take}
use Rattle.foundation.specs.Member.{Member}
use Rattle.rules_model.specs.declared.moves.Move.{Move}
use Rattle.rules_model.specs.Next.{next_repeat}
use Rattle.legality.specs.Stance.{repeat_in}
use Rattle.stipulation.specs.Bare.{reaches}
use Rattle.stipulation.proofs.reach_facts.ReachFacts.+reach.Given as goal

abbrev pub decreases-settle : goal.decreases-settle
decreases-settle l = 4 * l.plies

abbrev pub decreases-reaches : goal.decreases-reaches
decreases-reaches l = 4 * l.plies + 1

abbrev pub decreases-by_move : goal.decreases-by_move
decreases-by_move l = 4 * l.plies + 2

abbrev pub decreases-by_moves : goal.decreases-by_moves
decreases-by_moves l = 4 * l.plies + 3

abbrev pub invariant-by_moves-loop-m : goal.invariant-by_moves-loop-m
invariant-by_moves-loop-m l = record {
  same : l.self ≡ l.fn.self;
  told : (m : Move) → Member m (take l.m-index l.moves) → reaches l.fn.self l.plies (next_repeat l.fn.self.game.now.rules (repeat_in l.board) m) ≡ not l.choosing;
}
