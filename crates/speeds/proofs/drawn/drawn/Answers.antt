use Rattle.std.proofs.Common.{refl}
use Rattle.mate_shards.proofs.DrawnRules.{refutes-all}
use Rattle.speeds.proofs.drawn.drawn.Goals as goal

pub returns : goal.returns
returns c = refutes-all _ (record { flag = refl; checks = refl; extinction = refl; checkmate = refl; stalemate = refl })
