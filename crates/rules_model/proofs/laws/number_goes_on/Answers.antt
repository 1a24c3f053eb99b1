use Rattle.rules_model.proofs.GameLaws.{next-number-white, next-number-black, next-number-last}
use Rattle.rules_model.proofs.laws.number_goes_on.Goals as goal

pub returns : goal.returns
returns c = record {
  white = next-number-white;
  black = next-number-black;
  last = next-number-last;
}
