use Rattle.std.proofs.Common.{◌≡◌, ◌++◌, replicate}
use Rattle.variant_fen.proofs.write_fields.push_letters.Given as goal

abbrev pub invariant-loop-pushed : goal.invariant-loop-pushed
invariant-loop-pushed l = l.text.items ≡ l.initial.text.items ++ replicate l._pushed l.letter
