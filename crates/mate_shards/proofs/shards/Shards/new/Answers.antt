use Rattle.std.proofs.Common.{◌≡◌, ◌≤◌, List, [], ◌∷◌, ◌++◌, vec_len, sym, ◌∙◌, subst, arith}
use Rattle.std.proofs.lemmas.List.Elements.{All-weaker}
use Rattle.fact_lock.specs.Passes.{LockView, all_parts}
use Rattle.mate_shards.specs.Shard.{Key}
use Rattle.mate_shards.specs.Views.{ShardPass, IsFresh}
use Rattle.mate_shards.proofs.OwnedLaws.{none-owned}
use Rattle.mate_shards.proofs.TurnLemmas.{all-at}
use Rattle.mate_shards.proofs.PassLemmas.{AreMade, one-more, made-passes}
use Rattle.mate_shards.proofs.shards.Shards.new.Goals as goal

pub loop-alloc-preserved : goal.loop-alloc-preserved
loop-alloc-preserved c =
    let frame = c.args.frame in
    let capacity = c.args.capacity in
    let made = c.loop-alloc.invariant in
    let locks = c.loop-alloc.locks.items in
    let items = c.loop-alloc.items.items in
    let next = one-more frame capacity locks items c.in_ok-lock.lock c.in_ok-lock.pass made.0 c.in_ok-lock.ensures.key c.in_ok-lock.ensures.pass c.in_ok-lock.ensures.fresh in
    let P : List (LockView Key) → Type 0 = λ v. AreMade frame capacity v c.push_reserved-in-loop-alloc.new.self.items in
    let Q : List ShardPass → Type 0 = λ v. AreMade frame capacity (locks ++ c.in_ok-lock.lock ∷ []) v in
    let grew : vec_len c.push_reserved.new.self ≤ c.args.shards = omega (arith, c.push_reserved.ensures.len, c.len.ensures) in (
      subst P (sym c.push_reserved.ensures.items) (subst Q (sym c.push_reserved-in-loop-alloc.ensures.items) next),
      grew,
      c.push_reserved.ensures.capacity ∙ made.2,
      c.push_reserved-in-loop-alloc.ensures.capacity ∙ made.3,
    )

pub returns-clause-passes : goal.returns-clause-passes
returns-clause-passes c =
    made-passes (record { frame = c.args.frame; capacity = c.args.capacity; locks = c.loop-alloc.locks.items }) c.loop-alloc.items.items c.loop-alloc.invariant.0

pub returns-clause-parts : goal.returns-clause-parts
returns-clause-parts c =
    All-weaker (IsFresh []) (λ p. p.parts ≡ all_parts) (λ p fresh. fresh.parts) _ c.loop-alloc.invariant.0.all_fresh

pub returns-clause-owned : goal.returns-clause-owned
returns-clause-owned c =
    none-owned _ (λ k p e. (all-at (IsFresh []) _ k p c.loop-alloc.invariant.0.all_fresh e).own)
