-- A line of moves that goes on from a game.
use Rattle.std.specs.Prelude.{◌≡◌, ℕ, ◌+◌, ◌-◌, ◌<◌, ◌≤◌, true, false, List, [], ◌∷◌, ◌++◌, map, length, take}
use Rattle.rules_model.specs.declared.board.Position.{Position}
use Rattle.rules_model.specs.declared.board.Repeat.{Repeat}
use Rattle.rules_model.specs.declared.moves.Move.{Move}
use Rattle.rules_model.specs.declared.moves.Outcome.TheVariants.{Ongoing}
use Rattle.rules_model.specs.declared.rules.Rules.{Rules}
use Rattle.rules_model.specs.Ends.{early_end}
use Rattle.rules_model.specs.Games.{Story, history, played, story_from, are_legal, is_repeated, is_run_out, result}
use Rattle.rules_model.specs.Legal.{is_stuck, legal}
use Rattle.rules_model.specs.Next.{next}
use Rattle.rules_model.specs.Repeats.{repeat_of}
use Rattle.game_play.specs.Played.{Played, story, keys_of}
use Rattle.legality.specs.Stance.{Stance}
use Rattle.game_line.specs.Slots.{AreApart}

-- a line: the rules, the game from which it goes on, the moves since, in order, and how many moves it holds at most
pub record Lined : Type 0 where
  pub rules : Rules
  pub base : Story
  pub moves : List Move
  pub room : ℕ

-- the line of these moves after the game
abbrev pub line_of : Played → List Move → ℕ → Lined
line_of game moves room = record { rules = game.rules; base = story game; moves = moves; room = room }

-- the game and the line, each move played in turn
abbrev pub story_of_line : Lined → Story
story_of_line l = story_from l.rules l.base l.moves

-- a position by the rules
abbrev pub by_rules : Rules → Position → Stance
by_rules rules p = record { rules = rules; position = p }

-- its last position
abbrev pub stance_of_line : Lined → Stance
stance_of_line l = by_rules l.rules (story_of_line l).last

-- the moves that are legal after it
abbrev pub legal_in : Lined → List Move
legal_in l = legal l.rules (repeat_of (story_of_line l).last)

-- the keys of its positions and of the game's
abbrev pub keys_in : Lined → List ℕ
keys_in l = keys_of (history (story_of_line l))

-- the line one move longer
abbrev pub pushed : Lined → Move → Lined
pushed l m = record { rules = l.rules; base = l.base; moves = l.moves ++ m ∷ []; room = l.room }

-- the line without its last move
abbrev pub shorter : Lined → Lined
shorter l = record { rules = l.rules; base = l.base; moves = take (length l.moves - 1) l.moves; room = l.room }

-- ---- ends that no move brings about

-- after no move has the position stood often enough
abbrev pub RepeatsAfterNone : Lined → Type 0
RepeatsAfterNone l = (m : Move) → is_repeated l.rules (played l.rules (story_of_line l) m) ≡ false

-- after no move has the counter reached the move-count rule
abbrev pub RunsOutAfterNone : Lined → Type 0
RunsOutAfterNone l = (m : Move) → is_run_out l.rules (next l.rules (story_of_line l).last m).counter ≡ false

-- no position has an early end, and a move ends the game only where it leaves the other side no legal move
pub record EndsByStuckAlone (l : Lined) : Type 0 where
  pub early : (r : Repeat) → early_end l.rules r ≡ Ongoing
  pub later : (m : Move) → is_stuck l.rules (repeat_of (next l.rules (story_of_line l).last m)) ≡ false
      → result l.rules (played l.rules (story_of_line l) m) ≡ Ongoing

-- ---- what a `Line` holds

-- the position from which the moves go on, and one after each of them
abbrev pub positions_since : Rules → Position → List Move → List Position
positions_since rules p moves = history (story_from rules (record { earlier = []; last = p }) moves)

abbrev pub positions_of : List Stance → List Position
positions_of stances = map (λ (s : Stance). s.position) stances

abbrev pub stances_of : Rules → List Position → List Stance
stances_of rules positions = map (by_rules rules) positions

-- the keys of the game's positions and of the line's, of which the game's last is the first
abbrev pub all_keys : Story → List ℕ → List ℕ
all_keys base keys = keys_of base.earlier ++ keys

-- the boards and the keys are those of the positions since the game, and the moves are legal, each in its turn
pub record IsHeld (rules : Rules) (base : Position) (moves : List Move) (boards : List Stance)
    (keys : List ℕ) : Type 0 where
  pub are_legal : are_legal rules base moves ≡ true
  pub are_boards : boards ≡ stances_of rules (positions_since rules base moves)
  pub are_keys : keys ≡ keys_of (positions_since rules base moves)

-- so many of the keys are apart, together with all of the game's before them
pub record IsApart (base : Story) (keys : List ℕ) (apart : ℕ) : Type 0 where
  pub low : apart ≤ length keys
  pub each : 0 < apart → AreApart (all_keys base (take apart keys))

-- no more moves than there is room for, and memory for each; the game is not too long
pub record HasRoom (earlier moves room boards_capacity moves_capacity keys_capacity : ℕ) : Type 0 where
  pub short : earlier ≤ 8192
  pub small : room ≤ 200
  pub few : moves ≤ room
  pub for_boards : room + 1 ≤ boards_capacity
  pub for_moves : room ≤ moves_capacity
  pub for_keys : room + 1 ≤ keys_capacity
