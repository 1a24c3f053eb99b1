use Rattle.std.proofs.Common.{◌≡◌, refl, sym, ◌∙◌, arith}
use Rattle.std.proofs.lemmas.List.{take_more_same, take_all}
use Rattle.mate_shards.proofs.same_rules.are_same_terms.Goals as goal

pub loop-k-preserved : goal.loop-k-preserved
loop-k-preserved c =
    take_more_same c.args.a.now c.args.b.now c.loop-k.k _ c.loop-k-test.true (omega arith) c.loop-k.invariant (c.is_same_term.ensures.0 c.if-not-is_same_term.false)

pub returns : goal.returns
returns c =
    let a = c.args.a.now in
    let b = c.args.b.now in
    let k = c.loop-k.k in
    let same : a ≡ b = sym (take_all k a (omega arith)) ∙ (c.loop-k.invariant ∙ take_all k b (omega arith)) in
    (λ t. same, λ e. refl)
