use Rattle.session_model.proofs.laws.shown_strategies_begin_with_a_legal_move.Goals as goal
use Rattle.session_model.proofs.Shown.{roots_of_shown}

pub returns : goal.returns
returns c = roots_of_shown
