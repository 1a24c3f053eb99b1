-- A certificate's steps beside the game that is their root: what their verdicts are.
use Rattle.std.specs.Prelude.{ℕ, ◌+◌, Bool, List, [], take, drop, reverse}
use Rattle.rules_model.specs.declared.board.Position.{Position}
use Rattle.rules_model.specs.declared.moves.Move.{Move}
use Rattle.game_play.specs.Played.{story}
use Rattle.stipulation.specs.declared.cert.Step.{Step}
use Rattle.stipulation.specs.declared.check.Tree.{Tree}
use Rattle.stipulation.specs.declared.verdict.CertVerdict.{CertVerdict}
use Rattle.stipulation.specs.AtTask as At
use Rattle.stipulation.specs.Trees.{siblings}
use Rattle.stipulation.specs.Verdicts as Verdicts

-- the step's move may not follow the line to its parent, after these earlier steps in order
abbrev pub is_bad_move : Tree → List Position → List Step → Step → Bool
is_bad_move t ps earlier s =
    Verdicts.is_bad_move (At.games t.task) (At.at t.task ps) (siblings (reverse earlier) s.ply) s.chosen

-- of the step of this number, to which the line leads, with children that have these moves
abbrev pub game_verdict : Tree → ℕ → List Position → List Move → CertVerdict
game_verdict t i ps children = Verdicts.game_verdict (At.games t.task) i (At.at t.task ps) children

-- of the step, where it is the one at the place
abbrev pub step_verdict : Tree → ℕ → Step → CertVerdict
step_verdict t i s =
    let earlier = reverse (take i t.steps.now) in
    let later = drop (i + 1) t.steps.now in
    Verdicts.step_verdict (At.games t.task) t.n (story t.task.game.now) (i + 1) earlier s later

-- of all steps, but for their plies
abbrev pub steps_verdict : Tree → CertVerdict
steps_verdict t = Verdicts.steps_verdict (At.games t.task) t.n (story t.task.game.now) 1 [] t.steps.now

abbrev pub tree_verdict : Tree → CertVerdict
tree_verdict t = Verdicts.tree_verdict (At.games t.task) t.n (story t.task.game.now) t.steps.now

abbrev pub is_empty_end : Tree → Bool
is_empty_end t = Verdicts.is_empty_end (At.games t.task) (story t.task.game.now) t.steps.now
