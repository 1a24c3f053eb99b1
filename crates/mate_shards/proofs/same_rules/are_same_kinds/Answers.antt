use Rattle.std.proofs.Common.{◌≡◌, ◌<◌, length, refl, sym, ◌∙◌, arith}
use Rattle.std.proofs.lemmas.List.{take_more_same, take_all}
use Rattle.mate_shards.proofs.SameLemmas.{any_default}
use Rattle.mate_shards.proofs.same_rules.are_same_kinds.Goals as goal

pub loop-k-preserved : goal.loop-k-preserved
loop-k-preserved c =
    let below : c.loop-k.k < length c.args.b.now = omega (arith, c.type_inv.b) in
    take_more_same c.args.a.now c.args.b.now c.loop-k.k c.index-a-k.result (omega (arith, c.type_inv.a)) below c.loop-k.invariant
    (c.is_same_kind.ensures.0 c.if-not-is_same_kind.false ∙ any_default c.args.b.now c.loop-k.k c.index-b-k.result c.index-a-k.result below)

pub returns : goal.returns
returns c =
    let a = c.args.a.now in
    let b = c.args.b.now in
    let k = c.loop-k.k in
    let same : a ≡ b = sym (take_all k a (omega (arith, c.type_inv.a))) ∙ (c.loop-k.invariant ∙ take_all k b (omega (arith, c.type_inv.b))) in
    (λ t. same, λ e. refl)
