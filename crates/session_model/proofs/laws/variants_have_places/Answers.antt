use Rattle.session_model.proofs.laws.variants_have_places.Goals as goal
use Rattle.session_model.proofs.Variants.{chess_is_first, sessions_begin, variant_places}

pub returns-clause-places : goal.returns-clause-places
returns-clause-places c = variant_places

pub returns-clause-chess : goal.returns-clause-chess
returns-clause-chess c = chess_is_first

pub returns-clause-sessions : goal.returns-clause-sessions
returns-clause-sessions c = sessions_begin
