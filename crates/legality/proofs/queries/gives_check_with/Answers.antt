use Rattle.rules_model.proofs.LegalLaws.{legal-member}
use Rattle.legality.proofs.queries.gives_check_with.Goals as goal

pub checks_after-requires : goal.checks_after-requires
checks_after-requires c = (legal-member _ _ _ c.requires.legal).0
