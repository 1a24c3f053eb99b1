use Rattle.forced_wins.proofs.Sentences.{near-own, near-barred, near-zero, near-attack, near-defence, near-live}
use Rattle.forced_wins.proofs.by_rules.near_wins_are_a_bounded_recursion.Goals as goal

pub returns : goal.returns
returns c = λ rules n p b a. record {
  ended = near-own rules a b n p;
  cut_off = near-barred rules a b n p;
  ongoing = near-live rules a b p;
  no_move = λ is. near-zero rules a b p is.ongoing is.turn;
  attack = λ is. near-attack rules a b n p is.ongoing is.turn;
  defence = λ is. near-defence rules a b n p is.ongoing is.turn;
}
