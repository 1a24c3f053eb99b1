use Rattle.sound_play.proofs.FieldLaws.{next-counter_most, next-number_least, next-number_most}
use Rattle.sound_play.proofs.moves_keep_counts_in_range.Goals as goal

pub returns : goal.returns
returns c = record {
  counter = next-counter_most;
  number_least = next-number_least;
  number_most = next-number_most;
}
