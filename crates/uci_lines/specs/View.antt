-- Words and commands as the definitions of sessions have them.
use Rattle.std.specs.Prelude.{ℕ, List, map}
use Rattle.std.specs.Borrow.{Bor}
use Rattle.io_ports.specs.Lines as lines
use Rattle.io_ports.specs.Lines.{Line, Text}
use Rattle.io_ports.specs.declared.command.UciWord.{UciWord}
use Rattle.io_ports.specs.declared.command.UciWord.TheVariants as word
use Rattle.io_ports.specs.declared.source.Got.{Got}
use Rattle.io_ports.specs.declared.source.Got.TheVariants as got
use Rattle.session_model.specs.UciGo.{go_of}
use Rattle.session_model.specs.UciLines as UciLines
use Rattle.session_model.specs.UciLines.{Command, placing_of, setting_of}
use Rattle.session_model.specs.UciWords.{Word}
use Rattle.uci_lines.specs.declared.line.CommandKind.{CommandKind}
use Rattle.uci_lines.specs.declared.line.CommandKind.TheVariants as kind

-- the texts of words
abbrev pub texts : List (Bor (List ℕ)) → List Word
texts words = map (λ word. word.now) words

-- the line that was taken: what is not a line is one that is too long
abbrev pub line_got : Got → List ℕ → Line
line_got got.Line text = Text text
line_got got.TooLong text = lines.TooLong
line_got got.End text = lines.TooLong
line_got got.Failed text = lines.TooLong

abbrev pub kind_named : UciWord → CommandKind
kind_named word.Uci = kind.Uci
kind_named word.IsReady = kind.IsReady
kind_named word.UciNewGame = kind.NewGame
kind_named word.SetOption = kind.SetOption
kind_named word.Position = kind.Position
kind_named word.Go = kind.Go
kind_named word.Stop = kind.Stop
kind_named word.PonderHit = kind.Stop
kind_named word.Debug = kind.Idle
kind_named word.Register = kind.Idle
kind_named word.Moves = kind.Moves
kind_named word.Status = kind.Status
kind_named word.Checkers = kind.Checkers
kind_named word.Strategy = kind.Strategy
kind_named word.Quit = kind.Quit

-- the command of a kind, with the words after its word
abbrev pub command_with : CommandKind → List Word → Command
command_with kind.Uci words = UciLines.Uci
command_with kind.IsReady words = UciLines.IsReady
command_with kind.NewGame words = UciLines.NewGame
command_with kind.SetOption words = UciLines.SetOption (setting_of words)
command_with kind.Position words = UciLines.Position (placing_of words)
command_with kind.Go words = UciLines.Go (go_of words)
command_with kind.Stop words = UciLines.Stop
command_with kind.Idle words = UciLines.Idle
command_with kind.Moves words = UciLines.Moves
command_with kind.Status words = UciLines.Status
command_with kind.Checkers words = UciLines.Checkers
command_with kind.Strategy words = UciLines.Strategy
command_with kind.Quit words = UciLines.Quit
command_with kind.TooLong words = UciLines.TooLong
