use Rattle.rules_model.proofs.EqualLaws.{repeat-decides, move-decides}
use Rattle.rules_model.proofs.laws.equality_is_tested.Goals as goal

pub returns : goal.returns
returns c = record {
  repeats = repeat-decides;
  moves = move-decides;
}
