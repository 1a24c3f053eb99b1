use Rattle.rules_model.proofs.SizeLaws.{sizes-decided, sound-sizes}
use Rattle.rules_model.proofs.laws.sound_positions_have_sizes.Goals as goal

pub returns : goal.returns
returns c = record {
  tested = sizes-decided;
  sound = sound-sizes;
}
