use Rattle.forced_wins.proofs.Blocked.{wins-near, wins-near-same}
use Rattle.forced_wins.proofs.by_rules.wins_are_near_wins.Goals as goal

pub returns : goal.returns
returns c = λ rules n g a. record { always = wins-near rules n g a; in_limit = wins-near-same rules n g a }
