use Rattle.forced_wins.proofs.Blocked.{near_root-free}
use Rattle.forced_wins.proofs.Sentences.{near_root-ended, near_root-zero, near_root-attack, near_root-defence}
use Rattle.forced_wins.proofs.by_rules.near_wins_of_games_look_past_the_root.Goals as goal

pub returns : goal.returns
returns c = λ rules n g a. record {
  ended = near_root-ended rules a n g;
  no_move = λ is. near_root-zero rules a g is.ongoing is.turn;
  attack = λ is. near_root-attack rules a n g is.ongoing is.turn;
  defence = λ is. near_root-defence rules a n g is.ongoing is.turn;
  unbarred = near_root-free rules n g a;
}
