use Rattle.rules_model.proofs.PlayLaws.{next-is, next-side, next_repeat-side}
use Rattle.rules_model.proofs.laws.next_position_follows.Goals as goal

pub returns : goal.returns
returns c = record {
  repeats = next-is;
  sides = next-side;
  sides_of_repeats = next_repeat-side;
}
