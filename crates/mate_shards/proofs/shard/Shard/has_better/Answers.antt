use Rattle.std.proofs.Common.{ℕ, ◌-◌, length, arith, refl, subst, sym, ◌∙◌}
use Rattle.std.proofs.lemmas.Grind.{get_or_default_zero}
use Rattle.std.proofs.lemmas.List.{length-map}
use Rattle.mate_core.specs.Hash.{hash_of}
use Rattle.mate_shards.specs.Index.{IsLast, bucket_of, buckets}
use Rattle.mate_shards.proofs.IndexLemmas.{search-starts, search-goes-on, search-finds}
use Rattle.mate_shards.proofs.shard.Shard.has_better.Goals as goal

pub loop-at-init : goal.loop-at-init
loop-at-init c =
    let s = c.args.self.now in
    let g = c.args.given.now in
    let P : ℕ → Type 0 = λ h. IsLast (buckets s.capacity s.facts.items) (bucket_of s.capacity h) (length s.facts.items) c.head-at.result in
    search-starts s.capacity s.facts.items (hash_of g.repeat) g refl c.head-at.result (subst P c.hash.ensures c.head-at.ensures)

pub loop-at-preserved : goal.loop-at-preserved
loop-at-preserved c =
    let s = c.args.self.now in
    let g = c.args.given.now in
    let at = c.loop-at.at in
    let low = c.loop-at.invariant.chain.low in
    let linked = s.indexed.linked in
    let sized = length-map s.facts.items (λ f. bucket_of s.capacity (hash_of f.repeat)) in
    search-goes-on s.capacity s.facts.items (hash_of g.repeat) g refl s.heads.items s.links.items at c.index-at.result.now c.index.result.now s.indexed c.loop-at.invariant c.loop-at-test.true c.index.ensures
    (sym c.is_as_good.ensures ∙ c.if-is_as_good.false)
    (c.index-at.ensures ∙ get_or_default_zero s.links.items (at - 1) c.index-at.result.now (omega arith))

pub returns-then-is_as_good : goal.returns-then-is_as_good
returns-then-is_as_good c =
    let s = c.args.self.now in
    let g = c.args.given.now in
    sym (search-finds s.capacity s.facts.items (hash_of g.repeat) g refl c.loop-at.at c.index.result.now c.loop-at.invariant c.loop-at-test.true c.index.ensures (sym c.is_as_good.ensures ∙ c.if-is_as_good.true))
