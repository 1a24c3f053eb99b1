use Rattle.uci_lines.proofs.LineLemmas.{joined_more}
use Rattle.uci_lines.proofs.words.append_others.Goals as goal

pub loop-word-preserved : goal.loop-word-preserved
loop-word-preserved c =
    joined_more c.args.byte c.args.items.items c.args.words.now c.loop-word.word-index _ _ _ c.loop-word-test.true c.loop-word.invariant
    c.in_ok-append_word.ensures
