use Rattle.rules_model.proofs.LegalLaws.{legal-member}
use Rattle.playing.proofs.board.Board.captures.Goals as goal

pub captures-requires-clause-move_fits : goal.captures-requires-clause-move_fits
captures-requires-clause-move_fits c = (legal-member _ _ _ c.requires).0
