use Rattle.rules_model.proofs.PlayLaws.{next-counter, next_counter-mono, next_counter-up}
use Rattle.rules_model.proofs.GameLaws.{next_counter-range}
use Rattle.rules_model.proofs.laws.counter_goes_on.Goals as goal

pub returns : goal.returns
returns c = record {
  is = next-counter;
  keeps_order = next_counter-mono;
  rises = next_counter-up;
  stays_in_range = next_counter-range;
}
