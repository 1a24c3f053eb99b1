-- Moves played by their texts, one after another.
use Rattle.std.specs.Prelude.{ℕ, ◌+◌, nat_lt, Bool, not, List, [], ◌∷◌, Option, Some, None, Result, Ok, Err, length, filter, bytes_eq, if◌then◌else◌}
use Rattle.std.specs.List.{find, slice_split}
use Rattle.foundation.specs.Tests.{is_nil}
use Rattle.foundation.specs.Cuts.{is_blank}
use Rattle.rules_model.specs.declared.board.Position.{Position}
use Rattle.rules_model.specs.declared.moves.Move.{Move}
use Rattle.rules_model.specs.declared.rules.Rules.{Rules}
use Rattle.rules_model.specs.Legal.{legal}
use Rattle.rules_model.specs.MoveText.{text_of}
use Rattle.rules_model.specs.Repeats.{repeat_of}
use Rattle.game_play.specs.Played.{Played, longer, story}
use Rattle.game_play.specs.declared.game.TheConstants.{MOST_PLIES}
use Rattle.game_text.specs.declared.fault.GameFault.{GameFault}
use Rattle.game_text.specs.declared.fault.GameFault.TheVariants.{BadMove, TooManyMoves}

-- ---- the words of a line

abbrev pub is_word : List ℕ → Bool
is_word part = not (is_nil part)

-- the parts of a text between spaces and tabs that are not empty
abbrev pub words_of : List ℕ → List (List ℕ)
words_of text = filter is_word (slice_split is_blank text)

-- ---- one move

-- the most plies of a game
abbrev pub most_plies : ℕ
most_plies = MOST_PLIES

-- the legal move of the position with this text
unfoldable pub move_in : Rules → Position → List ℕ → Option Move
move_in rules p text = find (λ m. bytes_eq (text_of m) text) (legal rules (repeat_of p))

-- that of a game's last position
abbrev pub move_of : Played → List ℕ → Option Move
move_of g text = move_in g.rules (story g).last text

-- the game goes on with the move, where one is legal and there is room for it
abbrev pub goes_on : Played → List ℕ → Option Move → Result Played GameFault
goes_on g text None = Err (BadMove (length g.moves + 1) text)
goes_on g text (Some m) = if nat_lt (length g.moves) most_plies then Ok (longer g m) else Err TooManyMoves

-- the game with the move of this text, or why it is not played
unfoldable pub play : Played → List ℕ → Result Played GameFault
play g text = goes_on g text (move_of g text)

-- ---- many moves

abbrev pub and_then : {A : Type 0} → Result Played GameFault → (Played → Result A GameFault) → Result A GameFault
and_then (Ok g) next = next g
and_then (Err fault) next = Err fault

-- the game with the moves of these texts, one after another, or the first fault
unfoldable pub play_all : Played → List (List ℕ) → Result Played GameFault
play_all g [] = Ok g
play_all g (text ∷ texts) = and_then (play g text) (λ h. play_all h texts)
