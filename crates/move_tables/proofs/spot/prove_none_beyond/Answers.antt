use Rattle.std.proofs.Common.{rules}
use Rattle.square_set.proofs.BitLaws.{bit-above}
use Rattle.move_tables.proofs.spot.prove_none_beyond.Goals as goal

pub returns : goal.returns
returns c = λ t l. bit-above c.args.set.0 t (search rules) l
