use Rattle.forced_wins.proofs.SoundStrategies.{played-sound}
use Rattle.forced_wins.proofs.StrategyLaws.{played-strategies}
use Rattle.forced_wins.proofs.by_rules.won_games_have_good_strategies.Goals as goal

pub returns : goal.returns
returns c = record { exist = λ rules n g a. played-strategies rules a n g; sound = λ rules n g a fit. played-sound rules fit a n g }
