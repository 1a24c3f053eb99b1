use Rattle.forced_wins.proofs.Blocked.{near_root-grows, wins-grow}
use Rattle.forced_wins.proofs.FactLaws.{near-more}
use Rattle.forced_wins.proofs.by_rules.more_moves_do_no_harm.Goals as goal

pub returns : goal.returns
returns c = λ rules a k n low. record {
  wins = λ g. wins-grow rules k n g a low;
  near_roots = λ g. near_root-grows rules k n g a low;
  near_wins = λ p barred. near-more rules a barred k n p low;
}
