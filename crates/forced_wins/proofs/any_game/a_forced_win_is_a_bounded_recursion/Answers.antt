use Rattle.forced_wins.proofs.ClaimLaws.{forced-ended, forced-zero, forced-attack, forced-defence}
use Rattle.forced_wins.proofs.any_game.a_forced_win_is_a_bounded_recursion.Goals as goal

pub returns : goal.returns
returns g c = record {
  ended = λ x. forced-ended x;
  no_move = λ x. forced-zero x;
  moves = λ x turns. record {
    attack = λ n y is. forced-attack x turns n y is.ongoing is.turn;
    defence = λ n y is. forced-defence x turns n y is.ongoing is.turn;
  };
}
