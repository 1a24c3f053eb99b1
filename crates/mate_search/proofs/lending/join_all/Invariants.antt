use Rattle.std.proofs.Common.{◌≤◌, ◌+◌, ◌-◌, ℕ, vec_len, length}
use Rattle.std.specs.List.{All}
use Rattle.mate_shards.specs.Grown.{HaveGrown, HaveParts}
use Rattle.mate_shards.specs.Views.{ArePassesOf}
use Rattle.mate_search.specs.Races.{IsLent}
use Rattle.mate_search.proofs.lending.join_all.Given as goal

abbrev pub invariant-loop-worker : goal.invariant-loop-worker
invariant-loop-worker l = record {
  passes : ArePassesOf l.shards l.all;
  lent : All (IsLent l.shards) l.jobs.items;
  few : vec_len l.jobs ≤ vec_len l.fn.jobs;
  parts : (n : ℕ) → HaveParts n l.fn.mine → HaveParts (n + (vec_len l.fn.jobs - vec_len l.jobs)) l.all;
  grown : HaveGrown l.fn.mine l.all;
}

abbrev pub decreases-loop-worker : goal.decreases-loop-worker
decreases-loop-worker l = length l.jobs.items
