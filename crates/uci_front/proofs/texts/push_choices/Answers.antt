use Rattle.std.proofs.Common.{◌≡◌, ◌<◌, length, arith}
use Rattle.uci_front.proofs.TextLemmas.{choices_all, choices_more}
use Rattle.uci_front.proofs.texts.push_choices.Goals as goal

pub loop-place-preserved : goal.loop-place-preserved
loop-place-preserved c =
    let below : c.loop-place.place < length c.args.variants.now = omega arith in
    choices_more c.args.text.now.items c.loop-place.text.items _ c.args.variants.now c.loop-place.place below c.loop-place.invariant c.in_ok-push_choice.ensures

pub returns : goal.returns
returns c =
    let all : c.loop-place.place ≡ length c.args.variants.now = omega arith in
    choices_all c.args.text.now.items c.loop-place.text.items c.args.variants.now c.loop-place.place all c.loop-place.invariant
