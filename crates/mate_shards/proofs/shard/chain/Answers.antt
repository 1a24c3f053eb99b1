use Rattle.std.proofs.Common.{ℕ, ap, ◌∙◌, arith}
use Rattle.std.proofs.lemmas.Option.{get_or_from_slice_get}
use Rattle.forced_wins.specs.declared.fact.Fact.{Fact}
use Rattle.mate_core.specs.Hash.{hash_of}
use Rattle.mate_shards.specs.Index.{bucket_of}
use Rattle.mate_shards.proofs.IndexLemmas.{started, chain-size, chain-step, chain-whole}
use Rattle.mate_shards.proofs.shard.chain.Goals as goal

abbrev hash_of_fact : Fact → ℕ
hash_of_fact f = hash_of f.repeat

pub loop-i-init : goal.loop-i-init
loop-i-init c = (
  started _ _ _ (c.fill.ensures.items (λ y same. same)) c.clear.ensures.items,
  omega (arith, c.fill.ensures.len),
  omega (arith, c.clear.ensures.capacity),
)

pub push_reserved-requires : goal.push_reserved-requires
push_reserved-requires c =
    let so_far = c.loop-i.invariant in
    let size = chain-size c.args.count c.args.facts.now c.loop-i.heads.items c.loop-i.links.items c.loop-i.i c.loop-i-test.true so_far.0 in
    let same = so_far.2 in
    let room = c.requires.room in
    omega (arith, c.loop-i.links.ok.0)

pub loop-i-preserved : goal.loop-i-preserved
loop-i-preserved c =
    let so_far = c.loop-i.invariant in
    let heads = c.requires.some.1 in
    let same = so_far.1 in (
      chain-step c.args.count c.args.facts.now c.loop-i.heads.items c.loop-i.links.items c.push_reserved.new.self.items c.loop-i.i c.bucket_of-bucket.result c.index.result.now c.loop-i-test.true so_far.0
          (omega (arith, c.bucket_of-bucket.ensures.below, c.loop-i.heads.ok.0))
          (λ f at. c.bucket_of-bucket.ensures.is ∙ ap (bucket_of c.args.count) (c.hash.ensures ∙ (ap hash_of_fact c.index-facts-i.is ∙ ap hash_of_fact (get_or_from_slice_get c.args.facts.now c.loop-i.i f _ at))))
          c.index.ensures c.push_reserved.ensures.items,
      so_far.1,
      omega (arith, c.push_reserved.ensures.capacity, so_far.2),
    )

pub returns-clause-indexed : goal.returns-clause-indexed
returns-clause-indexed c =
    let so_far = c.loop-i.invariant in
    chain-whole c.args.count c.loop-i.i c.args.facts.now c.loop-i.heads.items c.loop-i.links.items (omega arith) so_far.0
