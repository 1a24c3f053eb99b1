use Rattle.std.proofs.Common.{ℕ, ◌-◌, length, arith, refl, subst, ◌∙◌}
use Rattle.std.proofs.lemmas.Grind.{get_or_default_zero}
use Rattle.std.proofs.lemmas.List.{length-map}
use Rattle.std.specs.Option.{option_copied}
use Rattle.mate_core.specs.Hash.{hash_of}
use Rattle.mate_shards.specs.Index.{IsLast, bucket_of, buckets}
use Rattle.mate_shards.proofs.IndexLemmas.{look-starts, look-goes-on, look-ends}
use Rattle.mate_shards.proofs.shard.Shard.best.Goals as goal

pub loop-at-init : goal.loop-at-init
loop-at-init c =
    let s = c.args.self.now in
    let q = c.args.query.now in
    let P : ℕ → Type 0 = λ h. IsLast (buckets s.capacity s.facts.items) (bucket_of s.capacity h) (length s.facts.items) c.head-at.result in
    look-starts s.capacity s.facts.items (hash_of q.repeat) q.repeat refl q.counter q.moves c.head-at.result (subst P c.hash.ensures c.head-at.ensures)

pub loop-at-preserved : goal.loop-at-preserved
loop-at-preserved c =
    let s = c.args.self.now in
    let q = c.args.query.now in
    let at = c.loop-at.at in
    let low = c.loop-at.invariant.chain.low in
    let linked = s.indexed.linked in
    let sized = length-map s.facts.items (λ f. bucket_of s.capacity (hash_of f.repeat)) in
    look-goes-on s.capacity s.facts.items (hash_of q.repeat) q.repeat refl s.heads.items s.links.items q.counter q.moves at c.index-at.result.now (option_copied c.loop-at.found) (option_copied c.with_older-found.result) c.index.result.now s.indexed c.loop-at.invariant c.loop-at-test.true c.index.ensures
    (c.index-at.ensures ∙ get_or_default_zero s.links.items (at - 1) c.index-at.result.now (omega arith))
    c.with_older-found.ensures

pub returns : goal.returns
returns c =
    let s = c.args.self.now in
    let q = c.args.query.now in
    look-ends s.capacity s.facts.items (hash_of q.repeat) q.repeat refl q.counter q.moves c.loop-at.at (option_copied c.loop-at.found) c.loop-at.invariant (omega arith)
