use Rattle.uci_lines.specs.GoView.{go_seen}
use Rattle.uci_lines.proofs.LineLemmas.{go_all, go_more, go_none}
use Rattle.uci_lines.proofs.go_words.read_go.Goals as goal

pub loop-word-init : goal.loop-word-init
loop-word-init c = go_none (go_seen c.asks_nothing-go.result) c.asks_nothing-go.ensures

pub loop-word-preserved : goal.loop-word-preserved
loop-word-preserved c =
    go_more c.args.words.now c.loop-word.word-index _ _ _ c.loop-word-test.true c.loop-word.invariant c.in_ok-awaited.ensures

pub returns : goal.returns
returns c = go_all c.args.words.now c.loop-word.word-index _ c.loop-word-test.false c.loop-word.invariant
