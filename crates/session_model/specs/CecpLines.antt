-- What a CECP line asks: its first word is the command, and the words after it say more.
use Rattle.std.specs.Prelude.{ℕ, nat_le, Bool, true, false, ◌&&◌, List, [], ◌∷◌, length, Option, Some, None, is_some, ◌==◌, bytes_eq, codes, if◌then◌else◌}
use Rattle.std.specs.List.{slice_split, list_any}
use Rattle.foundation.specs.Numbers.{are_digits}
use Rattle.io_ports.specs.Lines as lines
use Rattle.io_ports.specs.Lines.{Line, Text}
use Rattle.game_text.specs.Playing.{words_of}
use Rattle.session_model.specs.Numbers.{number_read}
use Rattle.session_model.specs.UciWords.{Word, joined, first_word}

pub data Command : Type 0 where
  -- a line that does nothing
  Idle : Command
  Protover : Command
  New : Command
  Variant : List ℕ → Command
  -- `force` and `result`
  Force : Command
  Go : Command
  PlayOther : Command
  UserMove : List ℕ → Command
  SetBoard : List ℕ → Command
  Ping : List ℕ → Command
  -- `undo` and `remove`: one ply, and two
  TakeBack : ℕ → Command
  -- `post` and `nopost`
  Post : Bool → Command
  St : ℕ → Command
  Sd : ℕ → Command
  -- moves a session, and the increment in seconds
  Level : ℕ → ℕ → Command
  Time : ℕ → Command
  Quit : Command
  -- faulty lines
  BadNumber : Command
  Unknown : Command
  TooLong : Command

-- ---- numbers

abbrev pub by_number : Option ℕ → (ℕ → Command) → Command
by_number None make = BadNumber
by_number (Some n) make = make n

-- by the number of the first word
abbrev pub with_number : List Word → (ℕ → Command) → Command
with_number words make = by_number (number_read (first_word words)) make

-- minutes, or minutes and seconds with a colon between
abbrev pub are_numbers : List Word → Bool
are_numbers (minutes ∷ []) = is_some (number_read minutes)
are_numbers (minutes ∷ seconds ∷ []) = is_some (number_read minutes) && is_some (number_read seconds)
are_numbers parts = false

abbrev pub is_base : Word → Bool
is_base word = are_numbers (slice_split (λ byte. byte == 58) word)

abbrev pub level_by : Option ℕ → Bool → Option ℕ → Command
level_by (Some moves) true (Some increment) = Level moves increment
level_by moves base increment = BadNumber

-- `level MPS BASE INC`; the base is read and not used
abbrev pub level_of : List Word → Command
level_of (moves ∷ base ∷ increment ∷ more) = level_by (number_read moves) (is_base base) (number_read increment)
level_of words = BadNumber

-- 1 to 20 digits
abbrev pub ping_of : Word → Command
ping_of word = if are_digits word && nat_le (length word) 20 then Ping word else BadNumber

-- ---- the line

-- the commands that do nothing
abbrev pub idle : List Word
idle =
    codes "xboard" ∷ codes "accepted" ∷ codes "rejected" ∷ codes "random" ∷ codes "hard" ∷ codes "easy"
    ∷ codes "computer" ∷ codes "name" ∷ codes "rating" ∷ codes "draw" ∷ codes "?" ∷ []

-- the word is one of these
abbrev pub is_among : List Word → Word → Bool
is_among words word = list_any (bytes_eq word) words

-- the command of a line's first word, with the words after it
abbrev pub command_named : Word → List Word → Command
command_named word words =
    if is_among idle word then Idle
    else (if bytes_eq word (codes "protover") then with_number words (λ n. Protover)
    else (if bytes_eq word (codes "new") then New
    else (if bytes_eq word (codes "variant") then Variant (first_word words)
    else (if bytes_eq word (codes "force") then Force
    else (if bytes_eq word (codes "result") then Force
    else (if bytes_eq word (codes "go") then Go
    else (if bytes_eq word (codes "playother") then PlayOther
    else (if bytes_eq word (codes "usermove") then UserMove (first_word words)
    else (if bytes_eq word (codes "setboard") then SetBoard (joined words)
    else (if bytes_eq word (codes "ping") then ping_of (first_word words)
    else (if bytes_eq word (codes "undo") then TakeBack 1
    else (if bytes_eq word (codes "remove") then TakeBack 2
    else (if bytes_eq word (codes "post") then Post true
    else (if bytes_eq word (codes "nopost") then Post false
    else (if bytes_eq word (codes "st") then with_number words St
    else (if bytes_eq word (codes "sd") then with_number words Sd
    else (if bytes_eq word (codes "level") then level_of words
    else (if bytes_eq word (codes "time") then with_number words Time
    else (if bytes_eq word (codes "otim") then with_number words (λ n. Idle)
    else (if bytes_eq word (codes "quit") then Quit else Unknown))))))))))))))))))))

-- a line of spaces and tabs alone has no command
abbrev pub command_in : List Word → Command
command_in [] = Unknown
command_in (word ∷ words) = command_named word words

-- an empty line does nothing
abbrev pub text_command : List ℕ → Command
text_command [] = Idle
text_command (byte ∷ bytes) = command_in (words_of (byte ∷ bytes))

unfoldable pub command_of : Line → Command
command_of (Text text) = text_command text
command_of lines.TooLong = TooLong

-- a search that such a line stops makes no move
abbrev pub gives_up : Command → Bool
gives_up Quit = true
gives_up Force = true
gives_up New = true
gives_up (Variant name) = true
gives_up (SetBoard text) = true
gives_up (TakeBack plies) = true
gives_up command = false
