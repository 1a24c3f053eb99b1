use Rattle.uci_lines.proofs.LineLemmas.{IsBefore}
use Rattle.uci_lines.proofs.words.before.Given as goal

abbrev pub invariant-loop-place : goal.invariant-loop-place
invariant-loop-place l = IsBefore l.word l.words l.place
