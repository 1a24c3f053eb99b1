use Rattle.std.proofs.Common.{◌≡◌, ◌+◌, ◌<◌, length, refl, arith, ap, ◌∙◌}
use Rattle.std.proofs.lemmas.Grind.{get_or_default_zero}
use Rattle.std.proofs.lemmas.List.Elements.{All-push, All-same}
use Rattle.mate_core.specs.Hash.{hash_of}
use Rattle.mate_core.specs.Runs.{IsTrueIn}
use Rattle.mate_shards.specs.Index.{bucket_of}
use Rattle.mate_shards.proofs.IndexLemmas.{pushed-fact}
use Rattle.mate_shards.proofs.shard.Shard.push.Goals as goal

pub invariant_of-self-clause-indexed : goal.invariant_of-self-clause-indexed
invariant_of-self-clause-indexed c =
    let s = c.args.self.now in
    let f = c.args.given in
    let b = c.bucket_of-bucket.result in
    let all = s.room.1 in
    let below : b < length s.heads.items = omega (arith, s.heads.ok.0, c.bucket_of-bucket.ensures.below) in
    let counted : c.len.result ≡ length s.facts.items + 1 = omega (arith, s.facts.ok.0, c.len.ensures, c.push_reserved-2.ensures.len) in
    pushed-fact s.capacity s.facts.items c.push_reserved-2.new.self.items s.heads.items s.links.items c.push_reserved.new.self.items f (hash_of f.repeat) b c.index.result.now c.len.result s.indexed refl (c.bucket_of-bucket.ensures.is ∙ ap (bucket_of s.capacity) c.hash.ensures) below
    (c.index.ensures ∙ get_or_default_zero s.heads.items b c.index.result.now below)
    c.push_reserved-2.ensures.items
    counted
    c.push_reserved.ensures.items

pub invariant_of-self-clause-true_facts : goal.invariant_of-self-clause-true_facts
invariant_of-self-clause-true_facts c =
    let s = c.args.self.now in
    let P = IsTrueIn s.frame.value in
    All-same P c.push_reserved-2.new.self.items _ c.push_reserved-2.ensures.items (All-push P s.facts.items c.args.given s.true_facts c.requires.truth)
