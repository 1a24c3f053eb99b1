use Rattle.std.proofs.Common.{◌≡◌, take}
use Rattle.session_model.specs.UciGo.{Nothing, asks_nothing, go_words}
use Rattle.uci_lines.specs.GoView.{read_seen}
use Rattle.uci_lines.specs.View.{texts}
use Rattle.uci_lines.proofs.go_words.read_go.Given as goal

-- what the words so far ask
abbrev pub invariant-loop-word : goal.invariant-loop-word
invariant-loop-word l = read_seen l.go l.awaited ≡ go_words (record { go = asks_nothing; awaited = Nothing }) (texts (take l.word-index l.words))
