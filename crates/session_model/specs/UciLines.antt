-- What a UCI line asks: its command, which is the first word that is a command word, and the words after it.
use Rattle.std.specs.Prelude.{ℕ, List, [], ◌∷◌, filter, Option, Some, None, option_and_then, unwrap_or, bytes_eq, codes, if◌then◌else◌}
use Rattle.std.specs.List.{slice_split}
use Rattle.std.specs.Str.{str_eq_ignore_ascii_case}
use Rattle.foundation.specs.Cuts.{is_blank}
use Rattle.io_ports.specs.Command.{first_command}
use Rattle.io_ports.specs.declared.command.UciWord.{UciWord}
use Rattle.io_ports.specs.declared.command.UciWord.TheVariants as word
use Rattle.io_ports.specs.Lines as lines
use Rattle.io_ports.specs.Lines.{Line, Text}
use Rattle.game_text.specs.Playing.{is_word}
use Rattle.session_model.specs.declared.options.TheConstants.{THREADS, HASH, MATE_FACTS, VARIANT_PATH, UCI_VARIANT}
use Rattle.session_model.specs.UciGo.{Go as Asked, go_of}
use Rattle.session_model.specs.UciWords.{Word, joined, words_before, words_behind}

-- ---- `setoption`

-- what is set, and its value where there is one
pub data Setting : Type 0 where
  Threads : Option (List ℕ) → Setting
  Hash : Option (List ℕ) → Setting
  MateFacts : Option (List ℕ) → Setting
  VariantPath : Option (List ℕ) → Setting
  Variant : Option (List ℕ) → Setting
  Unknown : Setting

-- the words of the name: those after the first `name`, up to the first `value` after it
abbrev pub name_words : List Word → List Word
name_words words = words_before (codes "value") (unwrap_or (words_behind (codes "name") words) [])

-- no words are no value
abbrev pub value_text : Option (List Word) → Option (List ℕ)
value_text None = None
value_text (Some []) = None
value_text (Some (word ∷ words)) = Some (joined (word ∷ words))

-- the value: all words after that `value`
abbrev pub value_said : List Word → Option (List ℕ)
value_said words = value_text (option_and_then (words_behind (codes "value")) (words_behind (codes "name") words))

-- by the name, in small letters or capitals
abbrev pub setting_named : List ℕ → Option (List ℕ) → Setting
setting_named name value =
    if str_eq_ignore_ascii_case name THREADS.now then Threads value
    else (if str_eq_ignore_ascii_case name HASH.now then Hash value
    else (if str_eq_ignore_ascii_case name MATE_FACTS.now then MateFacts value
    else (if str_eq_ignore_ascii_case name VARIANT_PATH.now then VariantPath value
    else (if str_eq_ignore_ascii_case name UCI_VARIANT.now then Variant value else Unknown))))

unfoldable pub setting_of : List Word → Setting
setting_of words = setting_named (joined (name_words words)) (value_said words)

-- ---- `position`

-- where a game starts, and the texts of its moves
pub data Placing : Type 0 where
  Startpos : List Word → Placing
  Fen : List ℕ → List Word → Placing
  NoPosition : Placing

-- the words after `moves`
abbrev pub moves_said : List Word → List Word
moves_said words = unwrap_or (words_behind (codes "moves") words) []

unfoldable pub placing_of : List Word → Placing
placing_of [] = NoPosition
placing_of (word ∷ words) =
    if bytes_eq word (codes "startpos") then Startpos (moves_said words)
    else (if bytes_eq word (codes "fen") then Fen (joined (words_before (codes "moves") words)) (moves_said words)
    else NoPosition)

-- ---- the line

pub data Command : Type 0 where
  Uci : Command
  IsReady : Command
  NewGame : Command
  SetOption : Setting → Command
  Position : Placing → Command
  Go : Asked → Command
  -- `stop` and `ponderhit`, which stop a search and do nothing else
  Stop : Command
  -- `debug` and `register`, and a line without a command word
  Idle : Command
  Moves : Command
  Status : Command
  Checkers : Command
  Strategy : Command
  Quit : Command
  TooLong : Command

-- the command of a command word and the words after it
abbrev pub command_named : UciWord → List Word → Command
command_named word.Uci words = Uci
command_named word.IsReady words = IsReady
command_named word.UciNewGame words = NewGame
command_named word.SetOption words = SetOption (setting_of words)
command_named word.Position words = Position (placing_of words)
command_named word.Go words = Go (go_of words)
command_named word.Stop words = Stop
command_named word.PonderHit words = Stop
command_named word.Debug words = Idle
command_named word.Register words = Idle
command_named word.Moves words = Moves
command_named word.Status words = Status
command_named word.Checkers words = Checkers
command_named word.Strategy words = Strategy
command_named word.Quit words = Quit

-- words before the command are skipped, and a line without one does nothing
abbrev pub command_found : Option (UciWord × List (List ℕ)) → Command
command_found None = Idle
command_found (Some found) = command_named found.0 (filter is_word found.1)

unfoldable pub command_of : Line → Command
command_of (Text text) = command_found (first_command (slice_split is_blank text))
command_of lines.TooLong = TooLong
