use Rattle.rules_model.proofs.LegalLaws.{legal-member}
use Rattle.settle_tests.proofs.replies.is_met.Goals as goal

pub meets-requires-clause-move_fits : goal.meets-requires-clause-move_fits
meets-requires-clause-move_fits c = (legal-member _ _ _ c.requires.legal).0
