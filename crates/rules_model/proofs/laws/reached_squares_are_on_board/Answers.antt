use Rattle.rules_model.proofs.VariantLaws.{kind_reaches-board}
use Rattle.rules_model.proofs.laws.reached_squares_are_on_board.Goals as goal

pub returns : goal.returns
returns c = λ rules fit cells side kind test from s e. kind_reaches-board rules cells side kind test from s fit.files_most e
