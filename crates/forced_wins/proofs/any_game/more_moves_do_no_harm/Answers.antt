use Rattle.forced_wins.proofs.ClaimLaws.{forced-mono}
use Rattle.forced_wins.proofs.any_game.more_moves_do_no_harm.Goals as goal

pub returns : goal.returns
returns g c = λ x. forced-mono x
