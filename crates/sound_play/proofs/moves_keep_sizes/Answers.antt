use Rattle.sound_play.proofs.SizeLaws.{next-sizes, next_repeat-sizes}
use Rattle.sound_play.proofs.moves_keep_sizes.Goals as goal

pub returns : goal.returns
returns c = record {
  repeats = next_repeat-sizes;
  positions = next-sizes;
}
