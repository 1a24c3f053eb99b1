use Rattle.forced_wins.proofs.Sentences.{wins-won, wins-drawn, wins-zero, wins-attack, wins-defence}
use Rattle.forced_wins.proofs.by_rules.wins_are_a_bounded_recursion.Goals as goal

pub returns : goal.returns
returns c = λ rules n g a. record {
  won = wins-won rules a n g;
  drawn = wins-drawn rules a n g;
  no_move = λ is. wins-zero rules a g is.ongoing is.turn;
  attack = λ is. wins-attack rules a n g is.ongoing is.turn;
  defence = λ is. wins-defence rules a n g is.ongoing is.turn;
}
