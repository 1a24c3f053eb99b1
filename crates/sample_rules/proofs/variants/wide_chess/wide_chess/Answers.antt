use Rattle.sample_rules.proofs.Samples.{wide_chess-fit, wide_chess-sound}
use Rattle.sample_rules.proofs.variants.wide_chess.wide_chess.Goals as goal

pub returns : goal.returns
returns c = record { fit = rw c.chess-rules.ensures.is wide_chess-fit; start = rw c.chess-rules.ensures.is wide_chess-sound }
