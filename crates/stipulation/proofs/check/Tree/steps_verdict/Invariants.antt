use Rattle.std.proofs.Common.{◌≡◌, ◌+◌, [], length, take, drop, reverse}
use Rattle.game_play.specs.Played.{story}
use Rattle.stipulation.specs.declared.verdict.CertVerdict.TheVariants.{Holds}
use Rattle.stipulation.specs.Verdicts.{plies_verdict, steps_verdict}
use Rattle.stipulation.specs.AtTask as At
use Rattle.stipulation.proofs.check.Tree.steps_verdict.Given as goal

abbrev pub invariant-loop-i : goal.invariant-loop-i
invariant-loop-i l = record {
  sound : At.AreSound l.self.task l.line;
  before : At.IsLineTo l.self.task (reverse (take l.i l.self.steps.now)) l.line;
  plies : plies_verdict (l.i + 1) (length l.line) (drop l.i l.self.steps.now) ≡ Holds;
  rest : steps_verdict (At.games l.self.task) l.self.n (story l.self.task.game.now) (l.i + 1) (reverse (take l.i l.self.steps.now)) (drop l.i l.self.steps.now)
      ≡ steps_verdict (At.games l.self.task) l.self.n (story l.self.task.game.now) 1 [] l.self.steps.now;
}
