use Rattle.forced_wins.proofs.StrategyLaws.{is-any-game, means-the-same, of_own}
use Rattle.forced_wins.proofs.by_rules.rules_of_play_are_a_game.Goals as goal

pub returns : goal.returns
returns h c = record { game = is-any-game; wins = λ rules n g a. means-the-same rules a n g; strategies = λ rules tb g a n s. of_own rules a tb g n s }
