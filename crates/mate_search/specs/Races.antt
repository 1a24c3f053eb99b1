-- What workers that race beside each other know, and how many nodes one of them enters.
use Rattle.std.specs.Prelude.{◌≡◌, ℕ, ◌+◌, ◌*◌, ◌<◌, ◌≤◌}
use Rattle.foundation.specs.Member.{Lists, Member}
use Rattle.game_play.specs.Played.{story}
use Rattle.legality.specs.Stance.{Stance, legal_in}
use Rattle.rules_model.specs.declared.board.Position.{Position}
use Rattle.rules_model.specs.Sides.{same_side}
use Rattle.mate_core.specs.declared.frame.Frame.{Frame}
use Rattle.mate_settle.specs.Lines.{lines_within, seen_in}
use Rattle.mate_fact.specs.InFrame.{left_after}
use Rattle.mate_shards.specs.Grown.{HaveParts}
use Rattle.mate_shards.specs.Views.{ArePassesOf, ShardsView}
use Rattle.mate_showing.specs.Answers.{IsFrameOf}
use Rattle.mate_search.specs.declared.job.Worker.{Worker}
use Rattle.mate_search.specs.declared.race.Race.{Race}
use Rattle.mate_search.specs.declared.race.RootTask.{RootTask}

-- the board of the game's last position
abbrev pub root_of : {G : Type 0} → Race G → Stance
root_of race = record { rules = race.game.now.rules; position = (story race.game.now).last }

-- the shards are of the game's frame, the root moves are its legal moves, and the number of moves is from 1 to 100
pub record IsReady {G : Type 0} (race : Race G) : Type 0 where
  pub frame : IsFrameOf race.game.now race.shards.now.frame
  pub roots : Lists (λ m. Member m (legal_in (root_of race))) race.roots.now
  pub some : 0 < race.n
  pub small : race.n ≤ 100

-- its moves are to be settled for the attacker's moves that are left after each
pub record IsTaskOf {G : Type 0} (race : Race G) (task : RootTask) : Type 0 where
  pub left : task.left ≡ left_after task.attacking race.n
  pub attacking : task.attacking ≡ same_side (story race.game.now).last.side race.shards.now.frame.attacker

-- the lines of the root
abbrev pub root_lines : {G : Type 0} → Race G → ℕ
root_lines race = lines_within (seen_in race.shards.now.frame) race.n (story race.game.now).last

-- those of a tree: each line once for each of at most 2 n + 1 plies, to settle the nodes whose children are all settled
abbrev pub tree_lines : Frame → ℕ → Position → ℕ
tree_lines f n p = (2 * n + 1) * lines_within (seen_in f) n p

-- those of a tree, and those of its moves, once in each round of the race
abbrev pub race_lines : {G : Type 0} → Race G → ℕ
race_lines race = (2 * race.n + 3) * root_lines race

-- those of the root, and those of its table
abbrev pub closing_lines : Frame → ℕ → Position → ℕ
closing_lines f n p = (n + 2) * lines_within (seen_in f) n p

-- all of them
abbrev pub raced_lines : {G : Type 0} → Race G → ℕ
raced_lines race = (3 * race.n + 5) * root_lines race

-- a worker beside the first has passes of one part for the shards
pub record IsLent (s : ShardsView) (worker : Worker) : Type 0 where
  pub passes : ArePassesOf s worker.passes
  pub part : HaveParts 1 worker.passes
