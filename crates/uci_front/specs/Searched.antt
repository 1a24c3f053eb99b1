-- What a `go` that searches comes to: what is said before its best move, and what cut it.
use Rattle.std.specs.Prelude.{◌≡◌, true, ℕ, List, [], ◌∷◌, ◌++◌, Option, Some}
use Rattle.io_ports.specs.declared.dialect.Dialect.TheVariants.{Uci}
use Rattle.io_ports.specs.Heard.{stops}
use Rattle.io_ports.specs.Lines.{Line, Text}
use Rattle.io_ports.specs.Owing.{Lacks, Spends}
use Rattle.io_ports.specs.Source.{Owed}
use Rattle.rules_model.specs.declared.moves.Move.{Move}
use Rattle.watching.specs.declared.halt.Cut.TheVariants as cut
use Rattle.watching.specs.Events.{Event, Says, AreUnstopped, Listens}
use Rattle.watching.specs.Looks.{Moved, Ran, held}
use Rattle.session_model.specs.Events.{IsStopped}
use Rattle.session_model.specs.Mates.{Announced, mover}
use Rattle.session_model.specs.Turns.{Turn}
use Rattle.session_model.specs.UciGo.{Go, is_held}
use Rattle.session_model.specs.UciSession.{Goes, announced, go_bound}
use Rattle.session_model.specs.UciState.{State}
use Rattle.thinking.specs.Views.{announced_seen}
use Rattle.session_model.specs.Lines.{Follows, Held}
use Rattle.session_model.specs.Turned.{RanPart}
use Rattle.uci_front.specs.declared.plan.GoPlan.{GoPlan}
use Rattle.uci_front.specs.declared.searching.GoResult.{GoResult}
use Rattle.uci_front.specs.PlanView.{IsPlan}
use Rattle.uci_front.specs.SessionView.{IsPrintable}
use Rattle.uci_front.specs.TextView.{last_line}

-- These events, then lines that are heard, and then the best move, are an answer, where the lines that follow are
-- those that what cut the search leaves, and one of them stops a best move that is held back.
pub record Gone (owed : Owed) (state : State) (plan : GoPlan) (came : GoResult) (text : List ℕ) (events : List Event)
    : Type 0 where
  pub unstopped : AreUnstopped Uci events
  pub stops : came.why ≡ Some cut.Line → stops Uci (Text text) ≡ true
  pub answers : (asked : Go) → IsPlan state asked plan → (heard : List Event) → Listens Uci heard
      → (turn : Turn State) (following : List Line)
      → turn.events ≡ (events ++ heard) ++ Says (last_line came.best) ∷ []
      → turn.after ≡ announced state (announced_seen came.kept)
      → (is_held asked (mover state.game) ≡ true → IsStopped Uci following)
      → Follows came.why text following
      → Goes (Lacks owed (go_bound state asked)) state asked turn following

-- a search came to this
pub record HasCome (moved : Moved) (owed owed' : Owed) (state : State) (plan : GoPlan) (text : List ℕ) (came : GoResult)
    : Type 0 where
  pub ran : Ran Uci moved (held came.why text) (Gone owed state plan came text)
  pub spends : (asked : Go) → IsPlan state asked plan → Spends owed owed' (go_bound state asked)
  pub printable : IsPrintable state.game.rules came.kept

-- these events, and then this best move, are an answer that leaves this mate announced
pub record Completes (state : State) (plan : GoPlan) (best : Option Move) (kept : Option Announced)
    (behind : List Line) (events : List Event) : Type 0 where
  pub unstopped : AreUnstopped Uci events
  pub answers : (asked : Go) → IsPlan state asked plan → (turn : Turn State)
      → turn.events ≡ events ++ Says (last_line best) ∷ [] → turn.after ≡ announced state kept
      → Goes (Unit {0}) state asked turn behind

-- a fault ended a search, of whose lines a front part was written; it is completed
pub record BrokeGoing (moved : Moved) (state : State) (plan : GoPlan) : Type 0 where
  pub best : Option Move
  pub kept : Option Announced
  pub behind : List Line
  pub is_held : Held behind
  pub part : RanPart Uci moved behind (Completes state plan best kept behind)
