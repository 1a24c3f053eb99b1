use Rattle.std.proofs.Common.{arith}
use Rattle.std.proofs.lemmas.List.FromFn.{fill_by_all}
use Rattle.sample_rules.specs.Positions.{held, hand_of}
use Rattle.sample_rules.proofs.positions.hand_of.Goals as goal

pub returns : goal.returns
unfolding hand_of
returns c = fill_by_all (held c.args.letters.now) c.loop-k.hand 26 0 c.loop-k.invariant.full (λ k h. c.loop-k.invariant.written k (omega arith))
