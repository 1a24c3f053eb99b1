use Rattle.rules_model.proofs.SquareLaws.{at_file_and_rank, file_of_at, rank_of_at, at_below, file_below, rank_below}
use Rattle.rules_model.proofs.laws.squares_are_files_and_ranks.Goals as goal

pub returns : goal.returns
returns c = record {
  whole = at_file_and_rank;
  file = file_of_at;
  rank = rank_of_at;
  below = at_below;
  file_below = file_below;
  rank_below = rank_below;
}
