use Rattle.std.proofs.Common.{◌≡◌}
use Rattle.variant_rules.specs.Entries.{entries_before}
use Rattle.variant_rules.proofs.loading.load.Given as goal

abbrev pub invariant-loop-place : goal.invariant-loop-place
invariant-loop-place l = l.made.items ≡ entries_before l.sections l.place
