use Rattle.forced_wins.proofs.Unsettled.{good-exactly-wins, near-good-or-unsettled}
use Rattle.forced_wins.proofs.any_game.a_win_has_a_good_strategy.Goals as goal

pub returns : goal.returns
returns g c = λ r l n story played. record { in_limit = good-exactly-wins r l story n played; settled = near-good-or-unsettled r l story n played }
