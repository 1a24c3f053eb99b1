-- The commands, by their names and arguments.
use Rattle.std.specs.Prelude.{ℕ, ◌-◌, ◌^◌, List, [], ◌∷◌, Option, Some, None, bytes_eq, codes, if◌then◌else◌}
use Rattle.std.specs.Option.{option_map}
use Rattle.words.specs.Number.{number_in}
use Rattle.words.specs.Options.{Text}

-- a command with its arguments
pub data Command : Type 0 where
  -- `uci`, and no words: a session of the Universal Chess Interface
  Uci : Command
  -- `xboard`: a session of the Chess Engine Communication Protocol
  Xboard : Command
  -- `moves`
  Moves : Command
  -- `status`
  Status : Command
  -- `checkers`
  Checkers : Command
  -- `perft N`: a number of plies
  Perft : ℕ → Command
  -- `check`
  Check : Command
  -- `stipulate self N`: a number of moves
  SelfMate : ℕ → Command
  -- `stipulate help N`: a number of moves of each side
  HelpMate : ℕ → Command
  -- `stipulate check`
  CheckCert : Command
  -- `variants`
  Variants : Command
  -- `suite`
  Suite : Command
  -- `pnmate N`: a number of moves
  PnMate : ℕ → Command
  -- `keys N`: a number of moves
  Keys : ℕ → Command
  -- `reach WORD SQUARE [OWN [ENEMY]]`: a Betza word, a square, and the lists of own and of enemy squares
  Reach : Text → Text → Text → Text → Command
  -- `generate NAME START N`: a variant, the number from which a random game goes, and the most plies that it has
  Generate : Text → ℕ → ℕ → Command
  -- `rules NAME`: a variant
  RulesOf : Text → Command
  -- `help`
  Help : Command
  -- `--version`
  Version : Command

-- the list of no square
abbrev pub no_squares : Text
no_squares = codes "none"

-- a command that takes no arguments
abbrev pub without_arguments : Command → List Text → Option Command
without_arguments command [] = Some command
without_arguments command arguments = None

-- from 1 to 9 plies
abbrev pub perft_of : Text → Option Command
perft_of plies = option_map Perft (number_in 1 9 plies)

abbrev pub perft_in : List Text → Option Command
perft_in (plies ∷ []) = perft_of plies
perft_in arguments = None

-- from 1 to 6 moves
abbrev pub self_mate_of : Text → Option Command
self_mate_of moves = option_map SelfMate (number_in 1 6 moves)

abbrev pub help_mate_of : Text → Option Command
help_mate_of moves = option_map HelpMate (number_in 1 6 moves)

-- a selfmate or a helpmate
abbrev pub mate_in : Text → Text → Option Command
mate_in stipulation moves =
    if bytes_eq stipulation (codes "self") then self_mate_of moves
    else (if bytes_eq stipulation (codes "help") then help_mate_of moves else None)

abbrev pub check_of : Text → Option Command
check_of word = if bytes_eq word (codes "check") then Some CheckCert else None

abbrev pub stipulate_in : List Text → Option Command
stipulate_in (word ∷ []) = check_of word
stipulate_in (stipulation ∷ moves ∷ []) = mate_in stipulation moves
stipulate_in arguments = None

-- from 1 to 100 moves
abbrev pub pn_mate_of : Text → Option Command
pn_mate_of moves = option_map PnMate (number_in 1 100 moves)

abbrev pub pn_mate_in : List Text → Option Command
pn_mate_in (moves ∷ []) = pn_mate_of moves
pn_mate_in arguments = None

-- from 1 to 20 moves
abbrev pub keys_of : Text → Option Command
keys_of moves = option_map Keys (number_in 1 20 moves)

abbrev pub keys_in : List Text → Option Command
keys_in (moves ∷ []) = keys_of moves
keys_in arguments = None

-- a list that is left out has no square
abbrev pub reach_in : List Text → Option Command
reach_in (word ∷ square ∷ []) = Some (Reach word square no_squares no_squares)
reach_in (word ∷ square ∷ own ∷ []) = Some (Reach word square own no_squares)
reach_in (word ∷ square ∷ own ∷ enemy ∷ []) = Some (Reach word square own enemy)
reach_in arguments = None

-- a number below 2^64, and up to 8,192 plies
abbrev pub generate_by : Text → Option ℕ → Option ℕ → Option Command
generate_by name (Some number) (Some plies) = Some (Generate name number plies)
generate_by name number plies = None

abbrev pub generate_in : List Text → Option Command
generate_in (name ∷ number ∷ plies ∷ []) =
    generate_by name (number_in 0 (2 ^ 64 - 1) number) (number_in 0 8192 plies)
generate_in arguments = None

abbrev pub rules_in : List Text → Option Command
rules_in (name ∷ []) = Some (RulesOf name)
rules_in arguments = None

-- the command of this name with these arguments
abbrev pub command_named : Text → List Text → Option Command
command_named name arguments =
    if bytes_eq name (codes "uci") then without_arguments Uci arguments
    else (if bytes_eq name (codes "xboard") then without_arguments Xboard arguments
    else (if bytes_eq name (codes "moves") then without_arguments Moves arguments
    else (if bytes_eq name (codes "status") then without_arguments Status arguments
    else (if bytes_eq name (codes "checkers") then without_arguments Checkers arguments
    else (if bytes_eq name (codes "perft") then perft_in arguments
    else (if bytes_eq name (codes "check") then without_arguments Check arguments
    else (if bytes_eq name (codes "stipulate") then stipulate_in arguments
    else (if bytes_eq name (codes "variants") then without_arguments Variants arguments
    else (if bytes_eq name (codes "reach") then reach_in arguments
    else (if bytes_eq name (codes "generate") then generate_in arguments
    else (if bytes_eq name (codes "suite") then without_arguments Suite arguments
    else (if bytes_eq name (codes "pnmate") then pn_mate_in arguments
    else (if bytes_eq name (codes "rules") then rules_in arguments
    else (if bytes_eq name (codes "keys") then keys_in arguments
    else (if bytes_eq name (codes "help") then without_arguments Help arguments else None)))))))))))))))

-- the command that words without options are; that of no words is the session of `uci`
abbrev pub command_in : List Text → Option Command
command_in [] = Some Uci
command_in (name ∷ arguments) = command_named name arguments

-- the command of a word that begins with two dashes and is no option
abbrev pub flag_of : Text → Option Command
flag_of word =
    if bytes_eq word (codes "--help") then Some Help
    else (if bytes_eq word (codes "--version") then Some Version else None)

-- such a word is the only one
abbrev pub flag_in : List Text → Option Command
flag_in (word ∷ []) = flag_of word
flag_in words = None
