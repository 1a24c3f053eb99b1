use Rattle.std.proofs.Common.{false, arith}
use Rattle.std.proofs.lemmas.List.FromFn.{fill_by_all}
use Rattle.sample_rules.specs.Regions.{is_listed, mask_of}
use Rattle.sample_rules.proofs.regions.mask_of.Goals as goal

pub returns : goal.returns
unfolding mask_of
returns c = fill_by_all (is_listed c.args.letters.now) c.loop-k.mask 26 false c.loop-k.invariant.full (λ k h. c.loop-k.invariant.written k (omega arith))
