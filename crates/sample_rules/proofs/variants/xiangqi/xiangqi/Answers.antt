use Rattle.sample_rules.proofs.Samples.{xiangqi-fit, xiangqi-sound}
use Rattle.sample_rules.proofs.variants.xiangqi.xiangqi.Goals as goal

pub returns : goal.returns
returns c = record { is = c.rules.ensures; fit = rw c.rules.ensures xiangqi-fit; start = rw c.rules.ensures xiangqi-sound }
