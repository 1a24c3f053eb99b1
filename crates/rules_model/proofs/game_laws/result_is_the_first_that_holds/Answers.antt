use Rattle.rules_model.proofs.ResultLaws.{result-early, result-checkmate, result-stalemate, result-repeated, result-run_out, result-ongoing, result-own}
use Rattle.rules_model.proofs.game_laws.result_is_the_first_that_holds.Goals as goal

pub returns : goal.returns
returns c = record {
  early = result-early;
  checkmate = result-checkmate;
  stalemate = result-stalemate;
  repetition = result-repeated;
  move_count = result-run_out;
  ongoing = result-ongoing;
  by_itself = result-own;
}
