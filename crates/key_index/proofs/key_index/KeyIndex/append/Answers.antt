use Rattle.std.proofs.Common.{◌≡◌, ◌+◌, ◌<◌, [], ◌∷◌, ◌++◌, length, ap, ◌∙◌, arith}
use Rattle.std.proofs.lemmas.Grind.{get_or_default_zero}
use Rattle.key_index.specs.Index.{bucket_of}
use Rattle.key_index.proofs.WalkLemmas.{pushed-key}
use Rattle.key_index.proofs.key_index.KeyIndex.append.Goals as goal

pub invariant_of-self-2 : goal.invariant_of-self-2
invariant_of-self-2 c =
    let s = c.self.inside in
    let key = c.args.key in
    let b = c.bucket_of-bucket.result in
    let size : c.len.result ≡ length s.heads.items = omega (arith, s.heads.ok.0, c.len.ensures) in
    let below : b < length s.heads.items = omega (arith, size, c.bucket_of-bucket.ensures.below) in
    let counted : c.len-2.result ≡ length s.keys.items + 1 = omega (arith, s.keys.ok.0, c.len-2.ensures, c.push_reserved-2.ensures.len, c.reserve.ensures.len) in
    pushed-key s.keys.items c.push_reserved-2.new.self.items s.heads.items s.links.items c.push_reserved.new.self.items key b c.index.result.now c.len-2.result c.self.invariant
    (c.bucket_of-bucket.ensures.is ∙ ap (λ n. bucket_of n key) size)
    below
    (c.index.ensures ∙ get_or_default_zero s.heads.items b c.index.result.now below)
    (c.push_reserved-2.ensures.items ∙ ap (λ ks. ks ++ key ∷ []) c.reserve.ensures.items)
    counted
    (c.push_reserved.ensures.items ∙ ap (λ ls. ls ++ c.index.result.now ∷ []) c.reserve-2.ensures.items)
