-- What a game text says: line 1 is the variant's name, line 2 the position, and the lines after them are the texts of
-- moves, separated by spaces and tabs.
use Rattle.std.specs.Prelude.{ℕ, ◌+◌, List, [], ◌∷◌, Option, Some, None, Result, Ok, Err, bytes_eq, codes, if◌then◌else◌}
use Rattle.io_ports.specs.Lines.{Line, Text, TooLong}
use Rattle.rules_model.specs.declared.board.Position.{Position}
use Rattle.rules_model.specs.declared.rules.Rules.{Rules}
use Rattle.fen_model.specs.declared.fault.FenFault.{FenFault}
use Rattle.fen_model.specs.Reading.{fen_of}
use Rattle.variant_model.specs.declared.fault.SectionFault.{SectionFault}
use Rattle.variant_rules.specs.Entries.{Named, found}
use Rattle.game_play.specs.Played.{Played}
use Rattle.game_text.specs.declared.fault.GameFault.{GameFault}
use Rattle.game_text.specs.declared.fault.GameFault.TheVariants.{Missing, UnknownVariant, RefusedVariant, BadPosition, LineTooLong}
use Rattle.game_text.specs.Playing.{and_then, play_all, words_of}

-- ---- from line 3 on

-- the game goes on with the moves of the lines from this number on, up to the first faulty one
unfoldable pub game_on : ℕ → Played → List Line → Result Played GameFault
game_on number g [] = Ok g
game_on number g (TooLong ∷ lines) = Err (LineTooLong number)
game_on number g (Text text ∷ lines) = and_then (play_all g (words_of text)) (λ h. game_on (number + 1) h lines)

-- ---- from line 2 on

-- the position of line 2: the variant's start, or what a FEN says
abbrev pub position_of : Rules → List ℕ → Result Position FenFault
position_of rules text = if bytes_eq text (codes "startpos") then Ok rules.start else fen_of rules text

-- no move was played yet
abbrev pub started : Rules → Position → Played
started rules p = record { rules = rules; start = p; moves = [] }

abbrev pub game_from : Rules → Result Position FenFault → List Line → Result Played GameFault
game_from rules (Err why) lines = Err (BadPosition why)
game_from rules (Ok p) lines = game_on 3 (started rules p) lines

-- the game by these rules that the lines from line 2 on say, or their first fault
unfoldable pub game_by : Rules → List Line → Result Played GameFault
game_by rules [] = Err (Missing 2)
game_by rules (TooLong ∷ lines) = Err (LineTooLong 2)
game_by rules (Text text ∷ lines) = game_from rules (position_of rules text) lines

-- ---- from line 1 on

abbrev pub game_in : List ℕ → Option (Result Rules SectionFault) → List Line → Result Played GameFault
game_in name None lines = Err (UnknownVariant name)
game_in name (Some (Err why)) lines = Err (RefusedVariant why)
game_in name (Some (Ok rules)) lines = game_by rules lines

-- the game of one of these variants that the lines of a game text say, or their first fault
unfoldable pub game_of : List Named → List Line → Result Played GameFault
game_of variants [] = Err (Missing 1)
game_of variants (TooLong ∷ lines) = Err (LineTooLong 1)
game_of variants (Text name ∷ lines) = game_in name (found variants name) lines

-- ---- how many lines tell it: all of them, or those up to the first faulty one

abbrev pub unless_faulty : Result Played GameFault → (Played → ℕ) → ℕ
unless_faulty (Ok g) more = more g
unless_faulty (Err fault) more = 0

-- of the lines from line 3 on
unfoldable pub lines_on : Played → List Line → ℕ
lines_on g [] = 0
lines_on g (TooLong ∷ lines) = 1
lines_on g (Text text ∷ lines) = 1 + unless_faulty (play_all g (words_of text)) (λ h. lines_on h lines)

-- of the lines after line 2
abbrev pub lines_from : Rules → Result Position FenFault → List Line → ℕ
lines_from rules (Err why) lines = 0
lines_from rules (Ok p) lines = lines_on (started rules p) lines

-- of the lines from line 2 on
unfoldable pub lines_by : Rules → List Line → ℕ
lines_by rules [] = 0
lines_by rules (TooLong ∷ lines) = 1
lines_by rules (Text text ∷ lines) = 1 + lines_from rules (position_of rules text) lines

-- of the lines after line 1
abbrev pub lines_in : Option (Result Rules SectionFault) → List Line → ℕ
lines_in None lines = 0
lines_in (Some (Err why)) lines = 0
lines_in (Some (Ok rules)) lines = lines_by rules lines

-- of the lines of a game text
unfoldable pub lines_of_game : List Named → List Line → ℕ
lines_of_game variants [] = 0
lines_of_game variants (TooLong ∷ lines) = 1
lines_of_game variants (Text name ∷ lines) = 1 + lines_in (found variants name) lines
