use Rattle.std.proofs.Common.{◌≡◌, ◌+◌, ◌-◌, ◌≤◌, All, vec_len, vec_capacity}
use Rattle.fact_lock.specs.Passes.{all_parts}
use Rattle.mate_shards.specs.Views.{ArePassesOf}
use Rattle.speeds.proofs.facts.shared_out.Given as goal

-- as many parts are given away as there are passes
abbrev pub invariant-loop : goal.invariant-loop
invariant-loop l =
    ArePassesOf l.shards l.passes × All (λ p. p.parts ≡ all_parts - vec_len l.all) l.passes × All (ArePassesOf l.shards) l.all.items
    × (vec_len l.all + 1 ≡ l.counter) × (l.threads ≤ vec_capacity l.all)
