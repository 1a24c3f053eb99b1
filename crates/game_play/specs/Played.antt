-- Games as they are kept, and what a game answers to a move.
use Rattle.std.specs.Prelude.{◌≡◌, ℕ, ◌-◌, ◌<◌, ◌≤◌, Bool, if◌then◌else◌, List, [], ◌∷◌, ◌++◌, map, length, take, slice_index_or, Result, Ok, Err}
use Rattle.foundation.specs.Member.{Member}
use Rattle.rules_model.specs.declared.board.Position.{Position}
use Rattle.rules_model.specs.declared.moves.Cause.TheVariants.{Repetition, MoveCount}
use Rattle.rules_model.specs.declared.moves.Move.{Move}
use Rattle.rules_model.specs.declared.moves.Outcome.{Outcome}
use Rattle.rules_model.specs.declared.moves.Outcome.TheVariants.{Ongoing, Drawn}
use Rattle.rules_model.specs.declared.rules.Rules.{Rules}
use Rattle.rules_model.specs.Ends.{valued}
use Rattle.rules_model.specs.Fit.{IsFit}
use Rattle.rules_model.specs.Games.{Story, history, story_of, IsGame, is_run_out}
use Rattle.rules_model.specs.Legal.{legal}
use Rattle.rules_model.specs.Repeats.{repeat_of}
use Rattle.game_play.specs.declared.faults.PlayFault.{PlayFault}
use Rattle.game_play.specs.declared.faults.PlayFault.TheVariants.{Illegal, TooLong, Memory}
use Rattle.position_key.specs.Key.{key_of}

-- a game: its rules, the position from which it started and the moves that were played
pub record Played : Type 0 where
  pub rules : Rules
  pub start : Position
  pub moves : List Move

-- its positions: the last one, and those before it in order
abbrev pub story : Played → Story
story g = story_of g.rules g.start g.moves

-- the game one move longer
abbrev pub longer : Played → Move → Played
longer g m = record { rules = g.rules; start = g.start; moves = g.moves ++ m ∷ [] }

-- the game without its last move
abbrev pub shorter : Played → Played
shorter g = record { rules = g.rules; start = g.start; moves = take (length g.moves - 1) g.moves }

-- the moves that are legal in it
abbrev pub legal_in : Played → List Move
legal_in g = legal g.rules (repeat_of (story g).last)

-- a game by rules that fit, of at most 8,192 plies
pub record IsPlayed (g : Played) : Type 0 where
  pub fit : IsFit g.rules
  pub game : IsGame g.rules g.start g.moves
  pub few : length g.moves ≤ 8192

-- the end of a game that its last position does not end by itself: repetition, where that position has stood often
-- enough, or the move count
abbrev pub counted_end : Rules → Position → Bool → Outcome
counted_end rules last repeated =
    if repeated then valued rules.n_fold_value last.side Repetition
    else if is_run_out rules last.counter then Drawn MoveCount else Ongoing

-- why a move was refused, exactly: each fault has its own case, and so has the move that is played
abbrev pub IsAnswer : {A : Type 0} → Played → Move → Result A PlayFault → Type 0
IsAnswer g m (Ok x) = Member m (legal_in g) × (length g.moves < 8192)
IsAnswer g m (Err Illegal) = Member m (legal_in g) → ⊥
IsAnswer g m (Err TooLong) = Member m (legal_in g) × (8192 ≤ length g.moves)
IsAnswer g m (Err Memory) = Member m (legal_in g) × (length g.moves < 8192)

-- ---- what a `Game` holds

-- the game of rules, positions and moves: it started from the first of the positions
abbrev pub played_of : Rules → List Position → List Move → Played
played_of rules positions moves =
    record { rules = rules; start = slice_index_or positions 0 rules.start; moves = moves }

-- a key for each position
abbrev pub keys_of : List Position → List ℕ
keys_of positions = map (λ p. key_of (repeat_of p)) positions

-- the positions are those of the game
pub record IsKept (rules : Rules) (positions : List Position) (moves : List Move) : Type 0 where
  pub by_rules : IsPlayed (played_of rules positions moves)
  pub are_positions : positions ≡ history (story (played_of rules positions moves))
