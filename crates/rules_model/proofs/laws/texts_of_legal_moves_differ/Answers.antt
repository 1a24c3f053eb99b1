use Rattle.rules_model.proofs.TextLaws.{legal_texts_differ}
use Rattle.rules_model.proofs.laws.texts_of_legal_moves_differ.Goals as goal

pub returns : goal.returns
returns c = legal_texts_differ
