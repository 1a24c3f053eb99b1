use Rattle.std.proofs.Common.{sym, ◌∙◌}
use Rattle.uci_lines.proofs.LineLemmas.{before_all, before_here, before_next}
use Rattle.uci_lines.proofs.words.before.Goals as goal

pub returns-then-is_text : goal.returns-then-is_text
returns-then-is_text c =
    before_here c.args.word.now c.args.words.now c.loop-place.place _ c.loop-place-test.true (sym c.is_text.ensures ∙ c.if-is_text.true)
    c.loop-place.invariant

pub loop-place-preserved : goal.loop-place-preserved
loop-place-preserved c =
    before_next c.args.word.now c.args.words.now c.loop-place.place _ c.loop-place-test.true (sym c.is_text.ensures ∙ c.if-is_text.false)
    c.loop-place.invariant

pub returns : goal.returns
returns c = before_all c.args.word.now c.args.words.now c.loop-place.place c.loop-place-test.false c.loop-place.invariant
