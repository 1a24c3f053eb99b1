use Rattle.rules_model.proofs.ResultLaws.{own_end-early, own_end-checkmate, own_end-stalemate, own_end-none}
use Rattle.rules_model.proofs.game_laws.position_ends_by_itself.Goals as goal

pub returns : goal.returns
returns c = record {
  early = own_end-early;
  checkmate = own_end-checkmate;
  stalemate = own_end-stalemate;
  ongoing = own_end-none;
}
