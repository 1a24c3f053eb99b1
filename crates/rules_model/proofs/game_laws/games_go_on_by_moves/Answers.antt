use Rattle.rules_model.proofs.ResultLaws.{story_from-none, story_from-more, are_legal-none, are_legal-more}
use Rattle.rules_model.proofs.game_laws.games_go_on_by_moves.Goals as goal

pub returns : goal.returns
returns c = record {
  no_move = story_from-none;
  one_more = story_from-more;
  none_illegal = are_legal-none;
  each_legal = are_legal-more;
}
