use Rattle.std.proofs.Common.{◌≡◌, ◌+◌, ◌-◌, All, vec_len, arith, sym, subst}
use Rattle.std.proofs.lemmas.List.Elements.{All-push, All-weaker}
use Rattle.fact_lock.specs.Passes.{all_parts}
use Rattle.mate_shards.specs.Views.{ArePassesOf}
use Rattle.speeds.proofs.facts.shared_out.Goals as goal

pub loop-preserved : goal.loop-preserved
loop-preserved c =
    let i = c.loop.invariant in
    let more = c.push_reserved.ensures.len in
    let few = c.requires.threads.1 in
    let goes_on = c.loop-test.true in
    let given = vec_len c.push_reserved.new.self in (
      c.in-Ok.ensures.first,
      c.in-Ok.ensures.parts (all_parts - given)
          (All-weaker (λ p. p.parts ≡ all_parts - vec_len c.loop.all) (λ p. p.parts ≡ all_parts - given + 1) (λ p is. omega (arith, more, i.3, few, goes_on)) _ i.1),
      subst (All (ArePassesOf c.args.shards.now)) (sym c.push_reserved.ensures.items)
          (All-push (ArePassesOf c.args.shards.now) c.loop.all.items c.in-Ok.given i.2 c.in-Ok.ensures.second),
      omega (arith, more, i.3),
      omega (arith, c.push_reserved.ensures.capacity, i.4),
    )

pub returns-clause-passes : goal.returns-clause-passes
returns-clause-passes c =
    subst (All (ArePassesOf c.args.shards.now)) (sym c.push_reserved-2.ensures.items)
    (All-push (ArePassesOf c.args.shards.now) c.loop.all.items c.loop.passes c.loop.invariant.2 c.loop.invariant.0)
