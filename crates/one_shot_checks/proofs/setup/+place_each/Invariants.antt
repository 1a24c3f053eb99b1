use Rattle.std.proofs.Common.{length}
use Rattle.one_shot_checks.proofs.setup.+place_each.Given as goal

abbrev pub decreases-place_each : goal.decreases-place_each
decreases-place_each l = length l.text.now
