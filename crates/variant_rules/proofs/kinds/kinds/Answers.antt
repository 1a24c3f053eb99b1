use Rattle.std.proofs.Common.{None, arith}
use Rattle.std.proofs.lemmas.List.FromFn.{fill_by_all}
use Rattle.variant_rules.specs.Said.{resolved_at, rule_at}
use Rattle.variant_rules.proofs.kinds.kinds.Goals as goal

pub returns : goal.returns
unfolding rule_at
returns c = fill_by_all (rule_at (resolved_at c.args.section.now)) c.loop-k.kinds 26 None c.loop-k.invariant.0 (λ k l. c.loop-k.invariant.1 k (omega (arith, l, c.loop-k-test.false)))
