use Rattle.variant_rules.proofs.PlayableLaws.{accepted_playable}
use Rattle.variant_rules.proofs.laws.accepted_rules_are_playable.Goals as goal

pub returns : goal.returns
returns c = accepted_playable
