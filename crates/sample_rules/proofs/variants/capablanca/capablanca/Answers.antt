use Rattle.sample_rules.proofs.Samples.{capablanca-fit, capablanca-sound}
use Rattle.sample_rules.proofs.variants.capablanca.capablanca.Goals as goal

pub returns : goal.returns
returns c = record { is = c.rules.ensures; fit = rw c.rules.ensures capablanca-fit; start = rw c.rules.ensures capablanca-sound }
