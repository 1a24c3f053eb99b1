use Rattle.std.proofs.Common.{◌≡◌, ◌-◌, ◌^◌, min, take, drop, length}
use Rattle.std.specs.List.{sum_by}
use Rattle.foundation.specs.Member.{Member, Appends}
use Rattle.rules_model.specs.Legal.{legal}
use Rattle.rules_model.specs.Next.{next}
use Rattle.rules_model.specs.Repeats.{repeat_of}
use Rattle.game_play.specs.Perft.{perft}
use Rattle.game_play.proofs.perft.+count_lines.Given as goal

abbrev pub decreases-count_lines : goal.decreases-count_lines
decreases-count_lines l = l.plies

abbrev pub invariant-loop-i : goal.invariant-loop-i
invariant-loop-i l = record {
  first : l.first ≡ length l.fn.moves;
  end : l.i-end ≡ length l.moves;
  listed : Appends (λ m. Member m (legal l.tables (repeat_of l.p))) l.fn.moves l.moves;
  total : l.total ≡ min (sum_by (λ m. perft l.tables (l.plies - 1) (next l.tables l.p m)) (take (l.i - l.first) (drop l.first l.moves))) (2 ^ 128 - 1);
}
