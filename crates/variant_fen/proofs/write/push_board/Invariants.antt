use Rattle.std.proofs.Common.{◌≡◌, ◌++◌}
use Rattle.variant_fen.proofs.WriteLemmas.{ranks_text}
use Rattle.variant_fen.proofs.write.push_board.Given as goal

abbrev pub invariant-loop-above : goal.invariant-loop-above
invariant-loop-above l = l.text.items ≡ l.initial.text.items ++ ranks_text l.rules l.cells l.above
