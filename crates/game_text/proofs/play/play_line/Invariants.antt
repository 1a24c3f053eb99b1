use Rattle.std.proofs.Common.{◌≡◌, length}
use Rattle.std.specs.List.{filter}
use Rattle.std.specs.Option.{option_copied}
use Rattle.foundation.specs.Cuts.{is_blank, parts_after}
use Rattle.game_text.specs.Playing.{is_word, play_all, words_of}
use Rattle.game_text.proofs.play.play_line.Given as goal

-- the words so far were played
abbrev pub invariant-loop-left : goal.invariant-loop-left
invariant-loop-left l = play_all l.initial.game (words_of l.text) ≡ play_all l.game (filter is_word (parts_after is_blank (option_copied l.left)))

abbrev pub decreases-loop-left : goal.decreases-loop-left
decreases-loop-left l = length (parts_after is_blank (option_copied l.left))
