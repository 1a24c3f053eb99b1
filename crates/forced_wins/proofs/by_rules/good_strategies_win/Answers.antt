use Rattle.forced_wins.proofs.StrategyLaws.{good-strategy-wins}
use Rattle.forced_wins.proofs.by_rules.good_strategies_win.Goals as goal

pub returns : goal.returns
returns g c = λ rules tb. good-strategy-wins rules tb
