use Rattle.std.proofs.Common.{◌≡◌, ◌++◌, [], replicate, arith, sym, ap, ◌∙◌, append_assoc}
use Rattle.std.proofs.lemmas.List.{append-nil}
use Rattle.variant_fen.proofs.PushLemmas.{hand_letters, hand_letters-all, hand_letters-more, hand_letters-none}
use Rattle.variant_fen.proofs.write_fields.push_hand.Goals as goal

pub loop-kind-init : goal.loop-kind-init
loop-kind-init c = sym (ap (λ t. c.args.text.now.items ++ t) (hand_letters-none c.args.hands.now c.args.side) ∙ append-nil c.args.text.now.items)

pub loop-kind-preserved : goal.loop-kind-preserved
loop-kind-preserved c =
    let more = hand_letters-more c.args.hands.now c.args.side c.loop-kind.kind in
    let join = append_assoc c.args.text.now.items (hand_letters c.args.hands.now c.args.side c.loop-kind.kind) in
    let letters = replicate c.in_hand.result c.kind_letter.result in
    cc (more, join letters, c.in_ok-push_letters.ensures, c.loop-kind.invariant, c.kind_letter.ensures, c.in_hand.ensures)

pub returns : goal.returns
returns c =
    let whole = hand_letters-all c.args.hands.now c.args.side in
    let done : c.loop-kind.kind ≡ 26 = omega (arith, c.loop-kind-test.false, c.loop-kind.auto.kind-end) in
    c.loop-kind.invariant ∙ ap (λ n. c.args.text.now.items ++ hand_letters c.args.hands.now c.args.side n) done ∙ ap (λ t. c.args.text.now.items ++ t) (sym whole)
