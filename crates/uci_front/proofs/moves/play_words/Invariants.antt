use Rattle.game_text.specs.Playing.{play_all}
use Rattle.uci_lines.specs.View.{texts}
use Rattle.uci_front.proofs.MoveLemmas.{Goes}
use Rattle.uci_front.proofs.moves.play_words.Given as goal

-- the words so far were played
abbrev pub invariant-loop-word : goal.invariant-loop-word
invariant-loop-word l = Goes l.words (play_all l.initial.game (texts l.words)) l.game l.word-index
