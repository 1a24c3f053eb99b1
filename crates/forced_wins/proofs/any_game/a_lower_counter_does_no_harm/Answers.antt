use Rattle.forced_wins.proofs.ClaimLaws.{near-lower, near-barred}
use Rattle.forced_wins.proofs.any_game.a_lower_counter_does_no_harm.Goals as goal

pub returns : goal.returns
returns g c = λ r l n. record {
  lower = λ b p q is. near-lower r l b n p q is.repeat is.counter;
  fewer = λ b d p fewer. near-barred r l b d fewer n p;
}
