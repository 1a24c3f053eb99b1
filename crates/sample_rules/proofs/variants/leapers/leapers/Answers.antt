use Rattle.sample_rules.proofs.Samples.{leapers-fit, leapers-sound}
use Rattle.sample_rules.proofs.variants.leapers.leapers.Goals as goal

pub returns : goal.returns
returns c = record { is = c.rules.ensures; fit = rw c.rules.ensures leapers-fit; start = rw c.rules.ensures leapers-sound }
