use Rattle.sample_rules.proofs.Samples.{shouse-fit, shouse-sound}
use Rattle.sample_rules.proofs.variants.shouse.shouse.Goals as goal

pub returns : goal.returns
returns c = record { is = c.rules.ensures; fit = rw c.rules.ensures shouse-fit; start = rw c.rules.ensures shouse-sound }
