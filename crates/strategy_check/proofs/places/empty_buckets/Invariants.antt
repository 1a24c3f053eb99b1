use Rattle.std.proofs.Common.{◌≡◌, [], replicate}
use Rattle.strategy_check.proofs.places.empty_buckets.Given as goal

abbrev pub invariant-loop-bucket : goal.invariant-loop-bucket
invariant-loop-bucket l = l.buckets.items ≡ replicate l._bucket []
