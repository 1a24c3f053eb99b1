use Rattle.betza_text.proofs.LegLaws.{atom-steps, part-steps}
use Rattle.betza_text.proofs.legs.steps_go_by_legs.Goals as goal

pub returns : goal.returns
returns c = record { atoms = atom-steps; parts = part-steps }
