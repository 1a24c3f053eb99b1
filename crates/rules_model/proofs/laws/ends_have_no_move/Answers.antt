use Rattle.rules_model.proofs.PlayLaws.{own_end-stuck, legal-ended, legal-early}
use Rattle.rules_model.proofs.GameLaws.{are_legal-ended}
use Rattle.rules_model.proofs.laws.ends_have_no_move.Goals as goal

pub returns : goal.returns
returns c = record {
  exactly = own_end-stuck;
  none = legal-ended;
  early = legal-early;
  games = are_legal-ended;
}
