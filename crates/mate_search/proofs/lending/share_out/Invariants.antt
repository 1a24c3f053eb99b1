use Rattle.std.proofs.Common.{◌≡◌, ◌≤◌, ◌<◌, ◌-◌, ℕ, vec_len, vec_capacity}
use Rattle.std.specs.List.{All}
use Rattle.mate_shards.specs.Grown.{HaveGrown, HaveParts}
use Rattle.mate_shards.specs.Views.{ArePassesOf}
use Rattle.mate_search.specs.Races.{IsLent}
use Rattle.mate_search.proofs.lending.share_out.Given as goal

abbrev pub invariant-loop-k : goal.invariant-loop-k
invariant-loop-k l = record {
  passes : ArePassesOf l.shards l.kept;
  lent : All (IsLent l.shards) l.jobs.items;
  made : vec_len l.jobs ≡ l.k;
  room : l.count ≤ vec_capacity l.jobs;
  parts : (n : ℕ) → HaveParts n l.fn.passes → l.count < n → HaveParts (n - vec_len l.jobs) l.kept;
  grown : HaveGrown l.fn.passes l.kept;
}
