use Rattle.std.proofs.Common.{sym, arith}
use Rattle.one_shots.proofs.StepLemmas.{ended}
use Rattle.one_shots.proofs.random_play.play_one.Goals as goal

pub returns-in_default : goal.returns-in_default
returns-in_default c = record {
  plays = ended c.args.generator.now c.args.game.now c.outcome.result (sym c.outcome.ensures) c.in_default.not-Ongoing;
  longer = omega arith;
}
