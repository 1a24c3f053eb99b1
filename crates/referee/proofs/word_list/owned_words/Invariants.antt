use Rattle.std.proofs.Common.{◌≡◌, map, string_bytes, take}
use Rattle.referee.proofs.word_list.owned_words.Given as goal

abbrev pub invariant-loop-i : goal.invariant-loop-i
invariant-loop-i l = map string_bytes l.owned.items ≡ map (λ word. word.now) (take l.i l.words)
