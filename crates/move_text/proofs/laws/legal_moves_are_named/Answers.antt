use Rattle.move_text.proofs.LegalLaws.{legal-named}
use Rattle.move_text.proofs.laws.legal_moves_are_named.Goals as goal

pub returns : goal.returns
returns c = record { named = legal-named }
