use Rattle.session_model.proofs.laws.solves_stay_within_the_bound_of_their_depth.Goals as goal
use Rattle.session_model.proofs.Reports.{sought_is_near}

pub returns : goal.returns
returns c = sought_is_near
