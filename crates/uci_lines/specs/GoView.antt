-- What `go` asks as the definitions of sessions have it.
use Rattle.std.specs.Prelude.{Option, Some, None}
use Rattle.session_model.specs.UciGo as UciGo
use Rattle.session_model.specs.UciGo.{GoRead}
use Rattle.uci_lines.specs.View.{texts}
use Rattle.uci_lines.specs.declared.go_words.Awaited.{Awaited}
use Rattle.uci_lines.specs.declared.go_words.Awaited.TheVariants as awaited
use Rattle.uci_lines.specs.declared.go_words.Go.{Go}
use Rattle.uci_lines.specs.declared.go_words.GoWord.{GoWord}
use Rattle.uci_lines.specs.declared.go_words.GoWord.TheVariants as word
use Rattle.uci_lines.specs.declared.go_words.Key.{Key}
use Rattle.uci_lines.specs.declared.go_words.Key.TheVariants as key

abbrev pub go_seen : Go → UciGo.Go
go_seen go = record {
  depth = go.depth;
  nodes = go.nodes;
  mate = go.mate;
  movetime = go.movetime;
  wtime = go.wtime;
  btime = go.btime;
  winc = go.winc;
  binc = go.binc;
  movestogo = go.movestogo;
  perft = go.perft;
  holds = go.holds;
  searchmoves = texts go.searchmoves.items;
}

abbrev pub key_seen : Key → UciGo.Key
key_seen key.Depth = UciGo.Depth
key_seen key.Nodes = UciGo.Nodes
key_seen key.Mate = UciGo.Mate
key_seen key.MoveTime = UciGo.MoveTime
key_seen key.WhiteTime = UciGo.WhiteTime
key_seen key.BlackTime = UciGo.BlackTime
key_seen key.WhiteIncrement = UciGo.WhiteIncrement
key_seen key.BlackIncrement = UciGo.BlackIncrement
key_seen key.MovesToGo = UciGo.MovesToGo
key_seen key.Perft = UciGo.Perft

abbrev pub go_word_seen : Option GoWord → Option UciGo.GoWord
go_word_seen None = None
go_word_seen (Some (word.Takes key)) = Some (UciGo.Takes (key_seen key))
go_word_seen (Some word.Holds) = Some UciGo.Holds
go_word_seen (Some word.SearchMoves) = Some UciGo.SearchMoves

abbrev pub awaited_seen : Awaited → UciGo.Awaited
awaited_seen awaited.Nothing = UciGo.Nothing
awaited_seen (awaited.Number key) = UciGo.Number (key_seen key)
awaited_seen awaited.Moves = UciGo.Moves

abbrev pub read_seen : Go → Awaited → GoRead
read_seen go awaited = record { go = go_seen go; awaited = awaited_seen awaited }
