use Rattle.std.proofs.Common.{◌≡◌, ◌++◌, take}
use Rattle.std.specs.List.{filter}
use Rattle.rules_model.specs.Repeats.{repeat_of}
use Rattle.fen_model.specs.Held.{held_letters}
use Rattle.fen_model.specs.Printing.{is_printed}
use Rattle.variant_fen.proofs.write_fields.push_held.Given as goal

abbrev pub invariant-loop-letter : goal.invariant-loop-letter
invariant-loop-letter l = l.text.items ≡ l.initial.text.items ++ filter (is_printed l.rules (repeat_of l.p)) (take l.letter-index held_letters)
