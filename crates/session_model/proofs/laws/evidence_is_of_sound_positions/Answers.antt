use Rattle.session_model.proofs.laws.evidence_is_of_sound_positions.Goals as goal
use Rattle.session_model.proofs.Shown.{evidence_is_sound}

pub returns : goal.returns
returns c = evidence_is_sound
