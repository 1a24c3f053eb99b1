-- Games and their results (FIDE Laws of Chess, articles 5 and 9; Fairy-Stockfish's `nFoldRule`, `nMoveRule` and their
-- kin).
use Rattle.std.specs.Prelude.{◌≡◌, ℕ, ◌*◌, nat_le, List, [], ◌∷◌, ◌++◌, Bool, true, false, not, ◌&&◌, ◌==◌, nat_eq, if◌then◌else◌, Option, Some, None, count_by}
use Rattle.std.specs.List.{list_any}
use Rattle.std.specs.Cmp.Lexicographic.{pointwise}
use Rattle.foundation.specs.Tests.{same_bool}
use Rattle.rules_model.specs.declared.board.Cell.{Cell}
use Rattle.rules_model.specs.declared.board.Position.{Position}
use Rattle.rules_model.specs.declared.board.Repeat.{Repeat}
use Rattle.rules_model.specs.declared.board.Square.{Square}
use Rattle.rules_model.specs.declared.moves.Cause.TheVariants.{Repetition, MoveCount}
use Rattle.rules_model.specs.declared.moves.Move.{Move}
use Rattle.rules_model.specs.declared.moves.Outcome.{Outcome}
use Rattle.rules_model.specs.declared.moves.Outcome.TheVariants.{Ongoing, Drawn}
use Rattle.rules_model.specs.declared.rules.Rules.{Rules}
use Rattle.rules_model.specs.Repeats.{repeat_of}
use Rattle.rules_model.specs.Sides.{same_side}
use Rattle.rules_model.specs.Kinds.{same_kind}
use Rattle.rules_model.specs.Moves.{same_move}
use Rattle.rules_model.specs.Next.{next}
use Rattle.rules_model.specs.Ends.{or_end, valued}
use Rattle.rules_model.specs.Legal.{legal, own_end}
use Rattle.rules_model.specs.Sound.{is_sound}

-- ---- equality of repeats

abbrev pub same_square : Option Square → Option Square → Bool
same_square None None = true
same_square None (Some b) = false
same_square (Some a) None = false
same_square (Some a) (Some b) = a.0 == b.0

abbrev pub same_cell : Option Cell → Option Cell → Bool
same_cell None None = true
same_cell None (Some b) = false
same_cell (Some a) None = false
same_cell (Some a) (Some b) = same_side a.side b.side && ((a.kind.0 == b.kind.0) && same_kind a.origin b.origin)

-- the test of equality of all that a repetition compares
unfoldable pub same_repeat : Repeat → Repeat → Bool
same_repeat a b =
    pointwise same_cell a.cells b.cells
    && (pointwise (pointwise nat_eq) a.hands b.hands
    && (pointwise nat_eq a.gates b.gates
    && (pointwise (pointwise same_bool) a.rights b.rights
    && (pointwise nat_eq a.checks b.checks && (same_square a.ep b.ep && same_side a.side b.side)))))

-- how many of the positions have the repeat
unfoldable pub times : Repeat → List Position → ℕ
times r ps = count_by (λ p. same_repeat (repeat_of p) r) ps

-- ---- games

-- the positions behind a position, along moves in turn
unfoldable pub positions_behind : Rules → Position → List Move → List Position
positions_behind rules p [] = []
positions_behind rules p (m ∷ ms) = next rules p m ∷ positions_behind rules (next rules p m) ms

-- the position behind them all
unfoldable pub last_of : Rules → Position → List Move → Position
last_of rules p [] = p
last_of rules p (m ∷ ms) = last_of rules (next rules p m) ms

-- each of the moves is legal in its turn
unfoldable pub are_legal : Rules → Position → List Move → Bool
are_legal rules p [] = true
are_legal rules p (m ∷ ms) = list_any (same_move m) (legal rules (repeat_of p)) && are_legal rules (next rules p m) ms

-- a game: a sound start, and legal moves each in turn
pub record IsGame (rules : Rules) (start : Position) (moves : List Move) : Type 0 where
  pub sound : is_sound rules start ≡ true
  pub legal_moves : are_legal rules start moves ≡ true

-- a game by its positions: the last one, and those before it in order
pub record Story : Type 0 where
  pub earlier : List Position
  pub last : Position

abbrev pub history : Story → List Position
history story = story.earlier ++ story.last ∷ []

-- the story of one move more
abbrev pub played : Rules → Story → Move → Story
played rules story m = record { earlier = history story; last = next rules story.last m }

unfoldable pub story_from : Rules → Story → List Move → Story
story_from rules story [] = story
story_from rules story (m ∷ ms) = story_from rules (played rules story m) ms

-- the story of a game
abbrev pub story_of : Rules → Position → List Move → Story
story_of rules start moves = story_from rules (record { earlier = []; last = start }) moves

-- ---- results

-- the last position has stood often enough
unfoldable pub is_repeated : Rules → Story → Bool
is_repeated rules story = not (rules.n_fold == 0) && nat_le rules.n_fold (times (repeat_of story.last) (history story))

-- the counter has reached the move-count rule
unfoldable pub is_run_out : Rules → ℕ → Bool
is_run_out rules counter = not (rules.n_move == 0) && nat_le (2 * rules.n_move) counter

-- how a game stands: an end by itself, then repetition, then the move count
unfoldable pub result : Rules → Story → Outcome
result rules story =
    or_end (own_end rules (repeat_of story.last))
    (if is_repeated rules story then valued rules.n_fold_value story.last.side Repetition
    else if is_run_out rules story.last.counter then Drawn MoveCount else Ongoing)
