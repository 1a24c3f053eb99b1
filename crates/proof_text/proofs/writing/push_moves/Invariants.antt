use Rattle.std.proofs.Common.{◌≡◌, ◌++◌, drop, map}
use Rattle.rules_model.specs.MoveText.{text_of}
use Rattle.strategy.specs.Writing.{ended_lines}
use Rattle.proof_text.proofs.writing.push_moves.Given as goal

abbrev pub invariant-loop-chosen : goal.invariant-loop-chosen
invariant-loop-chosen l =
    l.initial.text.items ++ ended_lines (map text_of l.moves)
    ≡ l.text.items ++ ended_lines (map text_of (drop l.chosen-index l.moves))
