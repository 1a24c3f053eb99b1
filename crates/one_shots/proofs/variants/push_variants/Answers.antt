use Rattle.std.proofs.Common.{◌≡◌, ◌<◌, ◌++◌, ℕ, List, length, ap, ◌∙◌, arith}
use Rattle.one_shots.proofs.VariantLemmas.{lines_all, lines_more}
use Rattle.one_shots.proofs.variants.push_variants.Goals as goal

pub loop-place-preserved : goal.loop-place-preserved
loop-place-preserved c =
    let below : c.loop-place.place < length c.args.variants.now = omega arith in
    c.in_ok-push_variant.ensures ∙ lines_more c.args.text.now.items c.loop-place.text.items c.args.variants.now c.loop-place.place below c.loop-place.invariant

pub returns : goal.returns
returns c =
    let all : c.loop-place.place ≡ length c.args.variants.now = omega arith in
    c.loop-place.invariant ∙ ap (λ (l : List ℕ). c.args.text.now.items ++ l) (lines_all c.args.variants.now c.loop-place.place all)
