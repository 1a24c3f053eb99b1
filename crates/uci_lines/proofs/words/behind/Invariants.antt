use Rattle.uci_lines.proofs.LineLemmas.{IsBehind}
use Rattle.uci_lines.proofs.words.behind.Given as goal

abbrev pub invariant-loop-place : goal.invariant-loop-place
invariant-loop-place l = IsBehind l.word l.words l.place
