use Rattle.std.proofs.Common.{◌≡◌, length}
use Rattle.std.specs.List.{filter}
use Rattle.std.specs.Option.{option_copied}
use Rattle.foundation.specs.Cuts.{is_blank, parts_after}
use Rattle.game_text.specs.Playing.{is_word, words_of}
use Rattle.cecp_front.proofs.words.find_word.Given as goal

-- the words of what is left are those of the text
abbrev pub invariant-loop-left : goal.invariant-loop-left
invariant-loop-left l = words_of l.text ≡ filter is_word (parts_after is_blank (option_copied l.left))

abbrev pub decreases-loop-left : goal.decreases-loop-left
decreases-loop-left l = length (parts_after is_blank (option_copied l.left))
