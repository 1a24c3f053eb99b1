use Rattle.sample_rules.proofs.Samples.{chess-fit, chess-sound}
use Rattle.sample_rules.proofs.variants.chess.chess.Goals as goal

pub returns : goal.returns
returns c = record { is = c.rules.ensures; fit = rw c.rules.ensures chess-fit; start = rw c.rules.ensures chess-sound }
