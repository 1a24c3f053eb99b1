use Rattle.std.proofs.Common.{Ok}
use Rattle.game_text.specs.Playing.{play}
use Rattle.referee.proofs.GameLemmas.{unplayed_so}
use Rattle.referee.proofs.games.play.Goals as goal

pub returns-in-Ok-answer_of-clause-plays : goal.returns-in-Ok-answer_of-clause-plays
returns-in-Ok-answer_of-clause-plays c =
    unplayed_so (play c.args.game.now c.args.text.now) c.args.game.now _ c.in-Err.why (Ok c.in-Ok-answer_of.answer) c.in-Err.ensures.plays c.in-Err.ensures.refused (rw c.from.ensures at c.in-Ok-answer_of.ensures)
