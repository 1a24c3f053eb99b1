use Rattle.std.proofs.Common.{◌≡◌, ◌∷◌, take}
use Rattle.std.specs.List.{join_with_byte}
use Rattle.uci_lines.specs.View.{texts}
use Rattle.uci_lines.proofs.words.append_others.Given as goal

-- the first word and those so far
abbrev pub invariant-loop-word : goal.invariant-loop-word
invariant-loop-word l = l.text ≡ join_with_byte l.byte (l.fn.items.items ∷ texts (take l.word-index l.words))
