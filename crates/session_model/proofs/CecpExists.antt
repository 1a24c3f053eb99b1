-- Each CECP session has some output, where searches may be interrupted: a search that is cut before its first depth.
use Rattle.std.proofs.Common.{◌≡◌, ℕ, ◌<◌, List, [], ◌∷◌, ◌++◌, map, Option, Some, None, Bool, true, false, if◌then◌else◌, refl, ap, arith, append_assoc}
use Rattle.std.specs.Prelude.{is_some}
use Rattle.io_ports.specs.declared.dialect.Dialect.TheVariants.{Cecp}
use Rattle.io_ports.specs.Files.{Contents}
use Rattle.io_ports.specs.Lines.{Line}
use Rattle.rules_model.specs.declared.moves.Move.{Move}
use Rattle.game_play.specs.Played.{legal_in}
use Rattle.session_model.proofs.Outputs
use Rattle.session_model.specs.CecpSession as Session
use Rattle.session_model.specs.CecpSession.{cecp, answer_of, depth_for, is_given_up, lowered, move_line, saying, time_for}
use Rattle.session_model.specs.CecpState.{State, played, thinks}
use Rattle.io_ports.specs.Heard.{stops}
use Rattle.watching.specs.Events.{Event, Hears, Says, AreUnstopped, heard_lines as heard, opened, readings, said}
use Rattle.session_model.specs.Events.{IsStopped, after_reading, clocked}
use Rattle.session_model.specs.Laws.{HasOutput}
use Rattle.session_model.specs.Thinking.{Interrupted, InSearch}

-- ---- the lines that a search hears, and the others

record Heard (lines : List Line) : Type 0 where
  before : List Line
  rest : List Line
  lines_are : lines ≡ before ++ rest
  unstopped : AreUnstopped Cecp (map Hears before)
  stopped : IsStopped Cecp rest

heard_by : (line : Line) (lines : List Line) (b : Bool) → stops Cecp line ≡ b → Heard lines → Heard (line ∷ lines)
heard_by line lines true is h = record { before = []; rest = line ∷ lines; lines_are = refl; unstopped = tt; stopped = is }
heard_by line lines false is h = record {
  before = line ∷ h.before;
  rest = h.rest;
  lines_are = ap (λ more. line ∷ more) h.lines_are;
  unstopped = (is, h.unstopped);
  stopped = h.stopped;
}

heard_of : (lines : List Line) → Heard lines
heard_of [] = record { before = []; rest = []; lines_are = refl; unstopped = tt; stopped = tt }
heard_of (line ∷ lines) = heard_by line lines (stops Cecp line) refl (heard_of lines)

-- ---- events

only_heard : (lines : List Line) → heard (map Hears lines) ≡ lines
only_heard [] = refl
only_heard (line ∷ lines) = ap (λ more. line ∷ more) (only_heard lines)

heard_then : (lines : List Line) (text : List ℕ) → heard (map Hears lines ++ Says text ∷ []) ≡ lines
heard_then [] text = refl
heard_then (line ∷ lines) text = ap (λ more. line ∷ more) (heard_then lines text)

none_said : (lines : List Line) → said (map Hears lines) ≡ []
none_said [] = refl
none_said (line ∷ lines) = none_said lines

none_clocked : (lines : List Line) → clocked None (after_reading (map Hears lines)) ≡ []
unfolding clocked after_reading
none_clocked [] = refl
none_clocked (line ∷ lines) = none_clocked lines

none_opened : (lines : List Line) → opened (map Hears lines) ≡ []
none_opened [] = refl
none_opened (line ∷ lines) = none_opened lines

none_opened_then : (lines : List Line) (text : List ℕ) → opened (map Hears lines ++ Says text ∷ []) ≡ []
none_opened_then [] text = refl
none_opened_then (line ∷ lines) text = none_opened_then lines text

none_read : (lines : List Line) → readings (map Hears lines) ≡ []
none_read [] = refl
none_read (line ∷ lines) = none_read lines

none_read_then : (lines : List Line) (text : List ℕ) → readings (map Hears lines ++ Says text ∷ []) ≡ []
none_read_then [] text = refl
none_read_then (line ∷ lines) text = none_read_then lines text

-- a text before events hears nothing, opens nothing and reads nothing
saying_heard : (text : List ℕ) (events : List Event) → heard (saying text ++ events) ≡ heard events
saying_heard [] events = refl
saying_heard (byte ∷ bytes) events = refl

saying_opened : (text : List ℕ) (events : List Event) → opened (saying text ++ events) ≡ opened events
saying_opened [] events = refl
saying_opened (byte ∷ bytes) events = refl

saying_readings : (text : List ℕ) (events : List Event) → readings (saying text ++ events) ≡ readings events
saying_readings [] events = refl
saying_readings (byte ∷ bytes) events = refl

readings_alone : (text : List ℕ) → readings (saying text) ≡ []
readings_alone [] = refl
readings_alone (byte ∷ bytes) = refl

saying_alone : (text : List ℕ) → heard (saying text) ≡ []
saying_alone [] = refl
saying_alone (byte ∷ bytes) = refl

opened_alone : (text : List ℕ) → opened (saying text) ≡ []
opened_alone [] = refl
opened_alone (byte ∷ bytes) = refl

-- ---- the last depth is 1 or more

lowered_some : (depth : ℕ) (sd : Option ℕ) → 0 < depth → 0 < lowered depth sd
lowered_some depth None some = some
lowered_some depth (Some sd) some = omega arith

by_time : (b : Bool) → 0 < (if b then 64 else 4)
by_time true = omega arith
by_time false = omega arith

some_depth : (state : State) → 0 < depth_for state
some_depth state = lowered_some (if is_some (time_for state) then 64 else 4) state.sd (by_time (is_some (time_for state)))

-- ---- one line

none_posted : (posts : Bool) (lines : List Line) → Session.Posts posts (map Hears lines) []
none_posted false lines = none_said lines
none_posted true lines = (none_said lines, none_clocked lines)

module _ (state : State) (asked : Line) (lines : List Line) (files : Contents) where
  record Thought (thinking : Bool) (moves : List Move) : Type 0 where
    events : List Event
    after : State
    rest : List Line
    lines_are : lines ≡ heard events ++ rest
    answers : Session.ThinksFrom thinking moves (Unit {0}) (answer_of state asked) (record { line = asked; events = events; after = after }) rest
    unread : opened events ≡ []
    quiet : readings events ≡ []

  -- the engine does not think
  quiet : (thinking : Bool) (moves : List Move)
      → Session.ThinksFrom thinking moves (Unit {0}) (answer_of state asked)
      (record { line = asked; events = saying (answer_of state asked).text; after = (answer_of state asked).state }) lines
      → Thought thinking moves
  quiet thinking moves h = record {
    events = saying (answer_of state asked).text;
    after = (answer_of state asked).state;
    rest = lines;
    lines_are = rw (saying_alone (answer_of state asked).text);
    answers = h;
    unread = opened_alone (answer_of state asked).text;
    quiet = readings_alone (answer_of state asked).text;
  }

  -- it thinks, and is cut before its first depth
  module _ (first : Move) (moves : List Move) (h : Heard lines) where
    gives_up : is_given_up h.rest ≡ true → Thought true (first ∷ moves)
    gives_up is = record {
      events = saying (answer_of state asked).text ++ map Hears h.before;
      after = (answer_of state asked).state;
      rest = h.rest;
      lines_are = rw (saying_heard (answer_of state asked).text (map Hears h.before), only_heard h.before) h.lines_are;
      answers = record {
        before = map Hears h.before;
        reports = [];
        ending = InSearch Interrupted;
        unstopped = h.unstopped;
        deepens = record { valued = tt; ended = (some_depth (answer_of state asked).state, (tt, h.stopped)) };
        posts = none_posted (answer_of state asked).state.posts h.before;
        concludes = rw is (refl, refl);
      };
      unread = rw (saying_opened (answer_of state asked).text (map Hears h.before)) (none_opened h.before);
      quiet = rw (saying_readings (answer_of state asked).text (map Hears h.before)) (none_read h.before);
    }

    moves_on : is_given_up h.rest ≡ false → Thought true (first ∷ moves)
    moves_on is = record {
      events = (saying (answer_of state asked).text ++ map Hears h.before) ++ Says (move_line first ++ (played (answer_of state asked).state first).text) ∷ [];
      after = (played (answer_of state asked).state first).state;
      rest = h.rest;
      lines_are = rw (
        append_assoc (saying (answer_of state asked).text) (map Hears h.before) (Says (move_line first ++ (played (answer_of state asked).state first).text) ∷ []),
        saying_heard (answer_of state asked).text (map Hears h.before ++ Says (move_line first ++ (played (answer_of state asked).state first).text) ∷ []),
        heard_then h.before (move_line first ++ (played (answer_of state asked).state first).text),
      ) h.lines_are;
      answers = record {
        before = map Hears h.before;
        reports = [];
        ending = InSearch Interrupted;
        unstopped = h.unstopped;
        deepens = record { valued = tt; ended = (some_depth (answer_of state asked).state, (tt, h.stopped)) };
        posts = none_posted (answer_of state asked).state.posts h.before;
        concludes = rw is (refl, refl);
      };
      unread = rw (
        append_assoc (saying (answer_of state asked).text) (map Hears h.before) (Says (move_line first ++ (played (answer_of state asked).state first).text) ∷ []),
        saying_opened (answer_of state asked).text (map Hears h.before ++ Says (move_line first ++ (played (answer_of state asked).state first).text) ∷ []),
      )
          (none_opened_then h.before (move_line first ++ (played (answer_of state asked).state first).text));
      quiet = rw (
        append_assoc (saying (answer_of state asked).text) (map Hears h.before) (Says (move_line first ++ (played (answer_of state asked).state first).text) ∷ []),
        saying_readings (answer_of state asked).text (map Hears h.before ++ Says (move_line first ++ (played (answer_of state asked).state first).text) ∷ []),
      )
          (none_read_then h.before (move_line first ++ (played (answer_of state asked).state first).text));
    }

    by_next : (b : Bool) → is_given_up h.rest ≡ b → Thought true (first ∷ moves)
    by_next true is = gives_up is
    by_next false is = moves_on is

  thought : (thinking : Bool) (moves : List Move) → Thought thinking moves
  thought true (first ∷ moves) = by_next first moves (heard_of lines) (is_given_up (heard_of lines).rest) refl
  thought true [] = quiet true [] (refl, refl)
  thought false moves = quiet false moves (refl, refl)

  as_step : Thought (thinks (answer_of state asked).state) (legal_in (answer_of state asked).state.game) → Outputs.Step cecp state asked lines files
  as_step t = record {
    events = t.events;
    after = t.after;
    rest = t.rest;
    lines_are = t.lines_are;
    answers = t.answers;
    found = rw t.unread tt;
    faultless = rw t.unread;
    quiet = t.quiet;
  }

cecp_steps : (state : State) (asked : Line) (lines : List Line) (files : Contents) → cecp.quits asked ≡ false
    → Outputs.Step cecp state asked lines files
cecp_steps state asked lines files is =
    as_step state asked lines files
    (thought state asked lines files (thinks (answer_of state asked).state) (legal_in (answer_of state asked).state.game))

pub cecp_has_output : HasOutput cecp
cecp_has_output = Outputs.has_output cecp cecp_steps
