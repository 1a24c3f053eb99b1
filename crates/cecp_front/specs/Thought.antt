-- What a thinking leaves. `moved` says what went through the source, the sink and the clock.
use Rattle.std.specs.Prelude.{◌≡◌, ℕ, Bool, true, false, List, [], ◌∷◌, ◌++◌, Option, Some, None, ⊤}
use Rattle.foundation.specs.Member.{Member}
use Rattle.io_ports.specs.declared.dialect.Dialect.TheVariants.{Cecp}
use Rattle.io_ports.specs.Lines.{Line, Text}
use Rattle.io_ports.specs.Owing.{Lacks, Spends}
use Rattle.io_ports.specs.Source.{Owed, got_lines}
use Rattle.io_ports.specs.declared.source.Got.{Got}
use Rattle.rules_model.specs.declared.moves.Move.{Move}
use Rattle.game_play.specs.Played.{legal_in}
use Rattle.watching.specs.declared.halt.Cut.{Cut}
use Rattle.watching.specs.declared.halt.Cut.TheVariants as cut
use Rattle.watching.specs.Events.{Event, AreUnstopped, heard_lines, opened, readings, written}
use Rattle.watching.specs.Looks.{Moved, held}
use Rattle.session_model.specs.CecpLines.{command_of, gives_up}
use Rattle.session_model.specs.CecpSession.{Posts, Thinks, bound_from, move_line, task_of}
use Rattle.session_model.specs.CecpState.{State, played}
use Rattle.session_model.specs.Thinking.{Deepens, Ending, Report, last_best, reported}
use Rattle.thinking.specs.Cuts.{IsEndedBy}
use Rattle.thinking.specs.declared.style.Style.{Style}
use Rattle.thinking.specs.declared.style.Style.TheVariants as style
use Rattle.session_model.specs.Lines.{Follows, Held, MayFollow}
use Rattle.session_model.specs.Turned.{turn_of}

-- the first legal move
abbrev pub IsFirst : State → Move → Type 0
IsFirst state first = (more : List Move) × (legal_in state.game ≡ first ∷ more)

-- ---- the search

-- a line for each depth, or none
abbrev pub style_of : Bool → Style
style_of true = style.Post
style_of false = style.Silent

-- Depths were searched from a state, with their lines, and this is the best move, or what cut it. What follows begins
-- with the line that cut it, where one did.
pub record Sought (moved : Moved) (owed owed' : Owed) (state : State) (first best : Move) (text : List ℕ)
    (why : Option Cut) : Type 0 where
  pub events : List Event
  pub reports : List Report
  pub ending : Ending
  pub went : moved (heard_lines events ++ held why text) (written Cecp events) (readings events)
  pub unstopped : AreUnstopped Cecp events
  pub posts : Posts state.posts events (reported reports ending)
  pub deepens : (following : List Line) → Follows why text following
      → Deepens Cecp (Lacks owed (bound_from true state)) (task_of state) reports ending (readings events) following
  pub ended : IsEndedBy why ending
  pub best_is : best ≡ last_best first (reported reports ending)
  pub legal : Member best (legal_in state.game)
  pub spends : Spends owed owed' (bound_from true state)

-- A fault came meanwhile: what was done is completed to a search after which these lines, one or none, are left.
pub record BrokeSeeking (moved : Moved) (state : State) : Type 0 where
  pub events : List Event
  pub reports : List Report
  pub ending : Ending
  pub behind : List Line
  pub is_held : Held behind
  pub front : List ℕ
  pub back : List ℕ
  pub wrote : written Cecp events ≡ front ++ back
  pub went : moved (heard_lines events ++ behind) front (readings events)
  pub unstopped : AreUnstopped Cecp events
  pub posts : Posts state.posts events (reported reports ending)
  pub deepens : Deepens Cecp ⊤ (task_of state) reports ending (readings events) behind

-- ---- the move

-- the line that cut the search gives it up
abbrev pub is_dropped : Option Cut → List ℕ → Bool
is_dropped None text = false
is_dropped (Some cut.Line) text = gives_up (command_of (Text text))
is_dropped (Some cut.End) text = false
is_dropped (Some (cut.Quota quota)) text = false
is_dropped (Some (cut.Deadline reading)) text = false

-- the move, and the result where it ends the game
abbrev pub move_text : State → Move → List ℕ
move_text state best = move_line best ++ (played state best).text

-- ---- the thinking

-- The engine thought from a state, after whatever was answered before, and the next line is there.
pub record Thought (moved : Moved) (owed owed' : Owed) (state after : State) (first : Move) (next : Got)
    (text : List ℕ) : Type 0 where
  pub events : List Event
  pub went : moved (heard_lines events ++ got_lines next text) (written Cecp events) (readings events)
  pub unopened : opened events ≡ []
  pub thinks : (answered : List Event) (line : Line) (following : List Line) → MayFollow next following
      → Thinks (Lacks owed (bound_from true state)) state first answered (turn_of line (answered ++ events) after)
      (got_lines next text ++ following)
  pub spends : Spends owed owed' (bound_from true state)

-- A fault ended a thinking, of which a front part was written. It is completed.
pub record Unthought (moved : Moved) (state : State) (first : Move) : Type 0 where
  pub events : List Event
  pub after : State
  pub behind : List Line
  pub is_held : Held behind
  pub front : List ℕ
  pub back : List ℕ
  pub wrote : written Cecp events ≡ front ++ back
  pub went : moved (heard_lines events ++ behind) front (readings events)
  pub unopened : opened events ≡ []
  pub thinks : (answered : List Event) (line : Line)
      → Thinks ⊤ state first answered (turn_of line (answered ++ events) after) behind
