use Rattle.std.proofs.Common.{◌+◌, ◌-◌, Some, length, length-drop, drop, arith, ap, sym, ◌∙◌}
use Rattle.std.proofs.lemmas.List.{take_all}
use Rattle.uci_lines.specs.View.{texts}
use Rattle.uci_lines.proofs.LineLemmas.{behind_all, behind_here, behind_next}
use Rattle.uci_lines.proofs.words.behind.Goals as goal

pub returns-then-is_text : goal.returns-then-is_text
returns-then-is_text c =
    ap (λ words. Some (texts words)) (take_all (length c.args.words.now - (c.loop-place.place + 1)) (drop (c.loop-place.place + 1) c.args.words.now) (rw length-drop (omega arith)))
    ∙ behind_here c.args.word.now c.args.words.now c.loop-place.place _ c.loop-place-test.true (sym c.is_text.ensures ∙ c.if-is_text.true)
    c.loop-place.invariant

pub loop-place-preserved : goal.loop-place-preserved
loop-place-preserved c =
    behind_next c.args.word.now c.args.words.now c.loop-place.place _ c.loop-place-test.true (sym c.is_text.ensures ∙ c.if-is_text.false)
    c.loop-place.invariant

pub returns : goal.returns
returns c = behind_all c.args.word.now c.args.words.now c.loop-place.place c.loop-place-test.false c.loop-place.invariant
