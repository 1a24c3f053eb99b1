use Rattle.std.proofs.Common.{◌≡◌, ◌++◌, ◌∷◌, [], ◌+◌, true, false, length, take, get_or, arith, sym, ap, ◌∙◌}
use Rattle.std.specs.List.{filter}
use Rattle.rules_model.specs.Repeats.{repeat_of}
use Rattle.fen_model.specs.Held.{held_letters}
use Rattle.fen_model.specs.Printing.{is_printed}
use Rattle.variant_fen.proofs.PushLemmas.{all_picked, picked_less, picked_more, rights_none, rights_some}
use Rattle.variant_fen.proofs.write_fields.push_held.Goals as goal
use Rattle.variant_fen.proofs.write_fields.push_held.Goals.{then-is_printed+in_ok-push, else-is_printed}

pub loop-letter-preserved : goal.loop-letter-preserved
loop-letter-preserved c =
    let q = is_printed c.args.rules.now (repeat_of c.args.p.now) in
    let i = c.loop-letter.letter-index in
    elim c.if-is_printed.branch [
      | then-is_printed+in_ok-push w ↦
          let more = picked_more q c.args.text.now.items held_letters i c.loop-letter-test.true (sym c.is_printed.ensures ∙ w.if-is_printed.true) in
          cc (more, w.text-is, w.in_ok-push.ensures.items, c.loop-letter.invariant)
      | else-is_printed w ↦
          let same = picked_less q held_letters i c.loop-letter-test.true (sym c.is_printed.ensures ∙ w.if-is_printed.false) in
          cc (same, w.text-is, c.loop-letter.invariant)
    ]

pub returns-in_ok-push-2 : goal.returns-in_ok-push-2
returns-in_ok-push-2 c =
    c.in_ok-push-2.ensures.items
    ∙ rights_none c.args.rules.now (repeat_of c.args.p.now) c.args.text.now.items c.loop-letter.text.items
    (all_picked c.args.rules.now (repeat_of c.args.p.now) c.args.text.now.items c.loop-letter.text.items c.loop-letter.letter-index c.loop-letter.invariant (omega (arith, c.loop-letter-test.false)))
    (sym c.loop-letter.text.ok.0 ∙ sym c.len.ensures ∙ c.if-len-start.true ∙ c.len-start.ensures ∙ c.args.text.now.ok.0)

pub returns-else-len-start : goal.returns-else-len-start
returns-else-len-start c =
    rights_some c.args.rules.now (repeat_of c.args.p.now) c.args.text.now.items c.loop-letter.text.items
    (all_picked c.args.rules.now (repeat_of c.args.p.now) c.args.text.now.items c.loop-letter.text.items c.loop-letter.letter-index c.loop-letter.invariant (omega (arith, c.loop-letter-test.false)))
    (λ e. c.if-len-start.false (c.len.ensures ∙ c.loop-letter.text.ok.0 ∙ e ∙ sym c.args.text.now.ok.0 ∙ sym c.len-start.ensures))
