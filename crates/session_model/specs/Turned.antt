-- What a turn of a session leaves, and one turn after another. `moved` says what went through the source, the sink and
-- the clock, and `asked` which files were asked for.
use Rattle.std.specs.Prelude.{◌≡◌, ℕ, List, ◌++◌, Option, ⊤}
use Rattle.io_ports.specs.Files.{Contents, Finds, Read}
use Rattle.io_ports.specs.Lines.{Line}
use Rattle.io_ports.specs.Owing.{Spends, Lacks}
use Rattle.io_ports.specs.Source.{Owed, got_lines}
use Rattle.io_ports.specs.Trace.{faults_in}
use Rattle.io_ports.specs.declared.dialect.Dialect.{Dialect}
use Rattle.io_ports.specs.declared.source.Got.{Got}
use Rattle.watching.specs.Events.{Event, heard_lines, opened, readings, written}
use Rattle.watching.specs.Looks.{Moved}
use Rattle.session_model.specs.Laws.{HasOutput, IsWider, LinesAreWanted}
use Rattle.session_model.specs.Turns.{Protocol, Turn, Turns, after_turns, bound_in, lines_in, output_in, reads_in, readings_in}
use Rattle.session_model.specs.Lines.{Held, MayFollow}

-- the laws of a protocol on which the frame rests
pub record IsLawful {State : Type 0} (p : Protocol State) : Type 1 where
  pub wider : IsWider p
  pub wanted : LinesAreWanted p
  pub output : HasOutput p

-- a turn of this line
unfoldable pub turn_of : {State : Type 0} → Line → List Event → State → Turn State
turn_of line events after = record { line = line; events = events; after = after }

-- files that were not asked for: reads of what they tell, without a fault
pub record Further (contents : Option Contents) (further : List Read) : Type 0 where
  pub found : Finds contents further
  pub works : faults_in further ≡ 0

-- Events were gone through of which this holds, and these lines come after them. Only a front part of what the events
-- write was written.
pub record RanPart (dialect : Dialect) (moved : Moved) (behind : List Line) (Holds : List Event → Type 0) : Type 0 where
  pub events : List Event
  pub front : List ℕ
  pub back : List ℕ
  pub wrote : written dialect events ≡ front ++ back
  pub went : moved (heard_lines events ++ behind) front (readings events)
  pub holds : Holds events

-- A line was answered, and the next one is there. The answer is one for whatever lines follow, and its search may be
-- interrupted only where fewer polls than the bound of the line were owed at its start.
pub record Served {State : Type 0} (p : Protocol State) (moved : Moved) (asked : List Read → Type 0)
    (owed owed' : Owed) (state after : State) (line : Line) (next : Got) (text : List ℕ) : Type 0 where
  pub events : List Event
  pub went : moved (heard_lines events ++ got_lines next text) (written p.dialect events) (readings events)
  pub asks : asked (opened events)
  pub answers : (following : List Line) → MayFollow next following
      → p.answers (Lacks owed (p.bound state line)) state (turn_of line events after) (got_lines next text ++ following)
  pub spends : Spends owed owed' (p.bound state line)

-- A fault ended the answer to a line, of which a front part was written, and a front part of the files was asked for.
-- What was done is completed to an answer that may be given if the lines end after those that were taken.
pub record Unserved {State : Type 0} (p : Protocol State) (moved : Moved) (asked : List Read → Type 0)
    (contents : Option Contents) (state : State) (line : Line) : Type 0 where
  pub events : List Event
  pub after : State
  pub behind : List Line
  pub is_held : Held behind
  pub front : List ℕ
  pub back : List ℕ
  pub wrote : written p.dialect events ≡ front ++ back
  pub went : moved (heard_lines events ++ behind) front (readings events)
  pub done : List Read
  pub further : List Read
  pub reads_are : opened events ≡ done ++ further
  pub asks : asked done
  pub more : Further contents further
  pub answers : p.answers ⊤ state (turn_of line events after) behind

-- Turns so far, from the start of the session, and the next line is there. They are allowed whatever lines follow.
pub record Turned {State : Type 0} (p : Protocol State) (moved : Moved) (asked : List Read → Type 0)
    (owed owed' : Owed) (start after : State) (next : Got) (text : List ℕ) : Type 0 where
  pub turns : List (Turn State)
  pub after_is : after_turns start turns ≡ after
  pub went : moved (lines_in turns ++ got_lines next text) (output_in p.dialect turns) (readings_in turns)
  pub asks : asked (reads_in turns)
  pub spends : Spends owed owed' (bound_in p 0 start turns)
  pub allowed : (following : List Line) → MayFollow next following
      → Turns p owed 0 start turns (got_lines next text ++ following)
