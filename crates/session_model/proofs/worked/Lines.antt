-- UCI lines: what they ask, and the lines that a search hears.
use Rattle.std.proofs.Common.{◌≡◌, ℕ, List, [], ◌∷◌, Some, None, true, false, refl}
use Rattle.std.specs.Prelude.{codes}
use Rattle.foundation.specs.Numbers.{are_digits, value_after}
use Rattle.io_ports.specs.declared.dialect.Dialect.TheVariants.{Uci, Cecp}
use Rattle.io_ports.specs.Lines as lines
use Rattle.io_ports.specs.Lines.{Text}
use Rattle.io_ports.specs.Heard.{reply_to, stops}
use Rattle.session_model.specs.Numbers.{number_read}
use Rattle.session_model.specs.UciGo.{go_words}
use Rattle.session_model.specs.UciLines.{Command, command_of, placing_of, setting_of, IsReady, SetOption, Position, Idle, Moves, Quit, TooLong, Threads, Hash, VariantPath, Variant, Unknown, Startpos, Fen, NoPosition}
use Rattle.session_model.specs.UciWords.{words_before, words_behind}

unfoldable lines_opened : Unit {0}
unfolding are_digits value_after number_read go_words words_before words_behind setting_of placing_of command_of
lines_opened = tt

abbrev asked : List ℕ → Command
asked text = command_of (Text text)

-- ---- commands

ready : asked (codes "isready") ≡ IsReady
unfolding lines_opened
ready = refl

-- words before the command are skipped
later_word : asked (codes "please\tisready now") ≡ IsReady
unfolding lines_opened
later_word = refl

-- the first command word decides
first_word : asked (codes "moves status") ≡ Moves
unfolding lines_opened
first_word = refl

no_word : asked (codes "ISREADY") ≡ Idle
unfolding lines_opened
no_word = refl

empty : asked [] ≡ Idle
unfolding lines_opened
empty = refl

blank : asked (codes " \t ") ≡ Idle
unfolding lines_opened
blank = refl

quits : asked (codes "x quit y") ≡ Quit
unfolding lines_opened
quits = refl

too_long_line : command_of lines.TooLong ≡ TooLong
unfolding lines_opened
too_long_line = refl

-- ---- `setoption`

threads : asked (codes "setoption name Threads value 4") ≡ SetOption (Threads (Some (codes "4")))
unfolding lines_opened
threads = refl

-- in any case
any_case : asked (codes "setoption name tHREADS value 4") ≡ SetOption (Threads (Some (codes "4")))
unfolding lines_opened
any_case = refl

-- names and values of several words are joined by single blanks
two_words : asked (codes "setoption name Uci  Variant value chess") ≡ SetOption Unknown
unfolding lines_opened
two_words = refl

value_words : asked (codes "setoption name Hash value 1 \t 2") ≡ SetOption (Hash (Some (codes "1 2")))
unfolding lines_opened
value_words = refl

no_value : asked (codes "setoption name Hash") ≡ SetOption (Hash None)
unfolding lines_opened
no_value = refl

empty_value : asked (codes "setoption name Hash value") ≡ SetOption (Hash None)
unfolding lines_opened
empty_value = refl

-- a `value` before the name is no value
early_value : asked (codes "setoption value 7 name Hash") ≡ SetOption (Hash None)
unfolding lines_opened
early_value = refl

-- a second `value` belongs to the value
second_value : asked (codes "setoption name VariantPath value a value b") ≡ SetOption (VariantPath (Some (codes "a value b")))
unfolding lines_opened
second_value = refl

no_name : asked (codes "setoption Hash value 7") ≡ SetOption Unknown
unfolding lines_opened
no_name = refl

-- a second `name` belongs to the name
second_name : asked (codes "setoption name name Hash value 7") ≡ SetOption Unknown
unfolding lines_opened
second_name = refl

missing_variant : asked (codes "setoption name UCI_Variant") ≡ SetOption (Variant None)
unfolding lines_opened
missing_variant = refl

-- ---- `position`

start : asked (codes "position startpos moves e2e4 e7e5") ≡ Position (Startpos (codes "e2e4" ∷ codes "e7e5" ∷ []))
unfolding lines_opened
start = refl

-- words between `startpos` and `moves` are skipped
skipped : asked (codes "position startpos now moves e2e4") ≡ Position (Startpos (codes "e2e4" ∷ []))
unfolding lines_opened
skipped = refl

no_moves : asked (codes "position startpos e2e4") ≡ Position (Startpos [])
unfolding lines_opened
no_moves = refl

fen : asked (codes "position fen 8/8  w - moves a1a2") ≡ Position (Fen (codes "8/8 w -") (codes "a1a2" ∷ []))
unfolding lines_opened
fen = refl

empty_fen : asked (codes "position fen") ≡ Position (Fen [] [])
unfolding lines_opened
empty_fen = refl

no_position : asked (codes "position now startpos") ≡ Position NoPosition
unfolding lines_opened
no_position = refl

bare_position : asked (codes "position") ≡ Position NoPosition
unfolding lines_opened
bare_position = refl

-- ---- what a search hears

stop_stops : stops Uci (Text (codes "stop")) ≡ true
stop_stops = refl

debug_does_not : stops Uci (Text (codes "debug on")) ≡ false
debug_does_not = refl

ready_is_answered : reply_to Uci (Text (codes "isready")) ≡ codes "readyok\n"
ready_is_answered = refl

long_is_answered : reply_to Uci lines.TooLong ≡ codes "info string error LineFault 1 TooLong\n"
long_is_answered = refl

long_in_cecp : reply_to Cecp lines.TooLong ≡ codes "Error (line too long)\n"
long_in_cecp = refl

-- a `ping` is answered after the move
ping_stops : stops Cecp (Text (codes "ping 1")) ≡ true
ping_stops = refl

empty_does_not : stops Cecp (Text []) ≡ false
empty_does_not = refl
