use Rattle.std.proofs.Common.{false, arith}
use Rattle.std.proofs.lemmas.List.FromFn.{fill_by_all}
use Rattle.variant_options.specs.Letters.{kind}
use Rattle.variant_rules.specs.Said.{held_at, resolved_at}
use Rattle.variant_rules.proofs.kinds.held_letters.Goals as goal

pub returns : goal.returns
unfolding held_at
returns c = fill_by_all (λ k. held_at (resolved_at c.args.section.now) c.args.mask.now (kind k)) c.loop-k.held 26 false c.loop-k.invariant.0 (λ k l. c.loop-k.invariant.1 k (omega (arith, l, c.loop-k-test.false)))
