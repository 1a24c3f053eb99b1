-- The values of this crate as the definitions of sessions have them.
use Rattle.std.specs.Prelude.{◌≡◌, ℕ, ◌≤◌, ◌<◌, ◌==◌, List, ◌∷◌, length, Option}
use Rattle.std.specs.List.{All}
use Rattle.std.specs.Option.{option_map}
use Rattle.foundation.specs.Member.{Member}
use Rattle.game_play.specs.Played.{legal_in}
use Rattle.session_model.specs.declared.limits.TheConstants.{MOST_DEPTH}
use Rattle.session_model.specs.Deadlines.{deadline_of}
use Rattle.session_model.specs.Mates as Mates
use Rattle.session_model.specs.Mates.{Announced}
use Rattle.session_model.specs.Thinking as Thinking
use Rattle.session_model.specs.Thinking.{Report}
use Rattle.thinking.specs.declared.depth_result.Evidence.{Evidence}
use Rattle.thinking.specs.declared.depth_result.DepthResult.{DepthResult}
use Rattle.thinking.specs.declared.depth_result.AnnouncedMate.{AnnouncedMate}
use Rattle.thinking.specs.declared.depth_result.Score.{Score}
use Rattle.thinking.specs.declared.depth_result.Score.TheVariants as score
use Rattle.thinking.specs.declared.task.Start.{Start}
use Rattle.thinking.specs.declared.task.Task.{Task}

-- ---- what is searched

abbrev pub task_seen : Task → Thinking.Task
task_seen t =
    record { game = t.game.now; roots = t.roots.now; depths = t.depths; share = t.share; time = t.time }

-- the root moves are legal, and there is one at least; `all` says whether they are all legal moves
pub record IsTask (t : Task) : Type 0 where
  pub legal : All (λ m. Member m (legal_in t.game.now)) t.roots.now
  pub some : 0 < length t.roots.now
  pub all : t.all ≡ (length t.roots.now == length (legal_in t.game.now))
  pub least : 1 ≤ t.depths
  pub most : t.depths ≤ MOST_DEPTH

-- the deadline of a search that began with its first reading
abbrev pub IsStart : Option ℕ → Start → Type 0
IsStart time start = (more : List ℕ) → start.deadline ≡ deadline_of time (start.first ∷ more)

-- ---- what is found

abbrev pub score_seen : Score → Thinking.Score
score_seen (score.Points points) = Thinking.Points points
score_seen (score.Mates moves strategy) = Thinking.Mates moves strategy
score_seen (score.Mated moves strategy) = Thinking.Mated moves strategy

abbrev pub evidence_of : Evidence → Mates.Evidence
evidence_of e = record { repeat = e.repeat; first = e.first; others = e.others }

abbrev pub evidence_seen : Option Evidence → Option Mates.Evidence
evidence_seen unsettled = option_map evidence_of unsettled

-- with the reading of the clock after the depth
abbrev pub report_of : DepthResult → ℕ → Report
report_of found clock = record {
  score = score_seen found.score;
  best = found.best;
  unsettled = evidence_seen found.unsettled;
  nodes = found.nodes;
  clock = clock;
}

abbrev pub announced_of : AnnouncedMate → Announced
announced_of kept = record { strategy = kept.strategy; moves = kept.moves }

abbrev pub announced_seen : Option AnnouncedMate → Option Announced
announced_seen kept = option_map announced_of kept
