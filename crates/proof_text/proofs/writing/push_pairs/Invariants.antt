use Rattle.std.proofs.Common.{◌≡◌, ◌++◌, drop, map}
use Rattle.variant_ini.specs.LineView.{pair_view}
use Rattle.strategy.specs.Writing.{ended_lines}
use Rattle.proof_text.specs.Writing.{pair_text}
use Rattle.proof_text.proofs.writing.push_pairs.Given as goal

abbrev pub invariant-loop-pair : goal.invariant-loop-pair
invariant-loop-pair l =
    l.initial.text.items ++ ended_lines (map (λ pair. pair_text (pair_view pair)) l.pairs)
    ≡ l.text.items ++ ended_lines (map (λ pair. pair_text (pair_view pair)) (drop l.pair-index l.pairs))
