use Rattle.std.proofs.Common.{◌≡◌, ◌++◌, length}
use Rattle.std.specs.List.{filter}
use Rattle.std.specs.Option.{option_copied}
use Rattle.foundation.specs.Cuts.{is_blank, parts_after}
use Rattle.game_text.specs.Playing.{is_word}
use Rattle.uci_lines.specs.View.{texts}
use Rattle.uci_lines.proofs.words.words_in.Given as goal

-- the words so far, and those of what is left
abbrev pub invariant-loop-left : goal.invariant-loop-left
invariant-loop-left l =
    texts l.words.items ++ filter is_word (parts_after is_blank (option_copied l.left))
    ≡ filter is_word (parts_after is_blank (option_copied l.text))

abbrev pub decreases-loop-left : goal.decreases-loop-left
decreases-loop-left l = length (parts_after is_blank (option_copied l.left))
