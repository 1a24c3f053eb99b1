use Rattle.forced_wins.proofs.GoodWins.{good-wins}
use Rattle.forced_wins.proofs.Verdicts.{verdict-faultless}
use Rattle.forced_wins.proofs.any_game.a_good_strategy_wins.Goals as goal

pub returns : goal.returns
returns g c = λ r tb l is_for s story n h. good-wins r tb l s story n (verdict-faultless r tb s story is_for n h).1
