use Rattle.sample_rules.proofs.Samples.{generals-fit, generals-sound}
use Rattle.sample_rules.proofs.variants.generals.generals.Goals as goal

pub returns : goal.returns
returns c = record { is = c.rules.ensures; fit = rw c.rules.ensures generals-fit; start = rw c.rules.ensures generals-sound }
