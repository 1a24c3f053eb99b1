use Rattle.rules_model.proofs.LegalLaws.{legal-member}
use Rattle.settle_tests.proofs.checks.is_asked.Goals as goal

pub may_check-requires-clause-move_fits : goal.may_check-requires-clause-move_fits
may_check-requires-clause-move_fits c = (legal-member _ _ _ c.requires.legal).0
