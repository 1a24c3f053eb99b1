use Rattle.rules_model.proofs.LegalLaws.{legal-member}
use Rattle.legality.proofs.make_move.apply.Goals as goal

pub make_move-requires-clause-move_fits : goal.make_move-requires-clause-move_fits
make_move-requires-clause-move_fits c = (legal-member _ _ _ c.requires.legal).0
