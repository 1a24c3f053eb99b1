-- Each UCI session has some output, where searches may be interrupted: a search that is cut before its first depth.
use Rattle.std.proofs.Common.{◌≡◌, ℕ, ◌<◌, List, [], ◌∷◌, ◌++◌, length, map, Option, Some, None, Bool, true, false, Ok, Err, refl, sym, ap, subst, arith}
use Rattle.std.specs.Prelude.{nat_lt, unwrap_or, T}
use Rattle.io_ports.specs.declared.dialect.Dialect.TheVariants.{Uci}
use Rattle.io_ports.specs.declared.files.TheConstants.{MAX_FILE}
use Rattle.io_ports.specs.Files.{Contents, Finds, IsFound, Bytes, TooLarge, found_of, faults_of}
use Rattle.io_ports.specs.Lines.{Line}
use Rattle.io_ports.specs.Trace.{faults_in}
use Rattle.rules_model.specs.declared.moves.Move.{Move}
use Rattle.game_play.specs.Played.{legal_in}
use Rattle.io_ports.specs.Heard.{stops}
use Rattle.watching.specs.Events.{Event, Hears, Says, Opens, AreUnstopped, heard_lines as heard, opened, readings, said}
use Rattle.session_model.specs.Events.{IsStopped}
use Rattle.session_model.specs.Laws.{HasOutput}
use Rattle.session_model.proofs.Outputs
use Rattle.session_model.specs.Mates.{mover}
use Rattle.session_model.specs.Thinking.{Interrupted, InSearch}
use Rattle.session_model.specs.Turns.{Turn}
use Rattle.session_model.specs.UciGo.{Go, cut_to, is_held}
use Rattle.session_model.specs.UciLines as line
use Rattle.session_model.specs.UciLines.{Command, Setting, command_of}
use Rattle.session_model.specs.UciSession
use Rattle.session_model.specs.UciSession.{uci, first_of, task_of}
use Rattle.session_model.specs.UciTexts.{best_line, error_line, no_best_line, stopped_line}
use Rattle.session_model.specs.UciState.{State, Outcome, file_named, load, set, place, new_game}

-- ---- the lines that a search hears, and the others

-- lines that do not stop a search, and what comes after them
pub record Heard (lines : List Line) : Type 0 where
  before : List Line
  rest : List Line
  lines_are : lines ≡ before ++ rest
  unstopped : AreUnstopped Uci (map Hears before)
  stopped : IsStopped Uci rest

heard_by : (line : Line) (lines : List Line) (b : Bool) → stops Uci line ≡ b → Heard lines → Heard (line ∷ lines)
heard_by line lines true is h = record { before = []; rest = line ∷ lines; lines_are = refl; unstopped = tt; stopped = is }
heard_by line lines false is h = record {
  before = line ∷ h.before;
  rest = h.rest;
  lines_are = ap (λ more. line ∷ more) h.lines_are;
  unstopped = (is, h.unstopped);
  stopped = h.stopped;
}

pub heard_of : (lines : List Line) → Heard lines
heard_of [] = record { before = []; rest = []; lines_are = refl; unstopped = tt; stopped = tt }
heard_of (line ∷ lines) = heard_by line lines (stops Uci line) refl (heard_of lines)

-- ---- events that only hear

hears : List Line → List Event
hears lines = map Hears lines

pub heard_hears : (lines : List Line) (text : List ℕ) → heard (map Hears lines ++ Says text ∷ []) ≡ lines
heard_hears [] text = refl
heard_hears (line ∷ lines) text = ap (λ more. line ∷ more) (heard_hears lines text)

pub said_hears : (lines : List Line) → said (map Hears lines) ≡ []
said_hears [] = refl
said_hears (line ∷ lines) = said_hears lines

readings_hears : (lines : List Line) (text : List ℕ) → readings (map Hears lines ++ Says text ∷ []) ≡ []
readings_hears [] text = refl
readings_hears (line ∷ lines) text = readings_hears lines text

pub opened_hears : (lines : List Line) (text : List ℕ) → opened (map Hears lines ++ Says text ∷ []) ≡ []
opened_hears [] text = refl
opened_hears (line ∷ lines) text = opened_hears lines text

-- ---- files

found_large : (bytes : List ℕ) → nat_lt MAX_FILE (length bytes) ≡ true → found_of (Some bytes) ≡ TooLarge
found_large bytes h = rw h

found_small : (bytes : List ℕ) → nat_lt MAX_FILE (length bytes) ≡ false → found_of (Some bytes) ≡ Bytes bytes
found_small bytes h = rw h

-- what is to be found is found, without a fault
record IsRight (file : Option (List ℕ)) : Type 0 where
  found : IsFound file (found_of file)
  faultless : faults_of (found_of file) ≡ 0

by_size : (bytes : List ℕ) (b : Bool) → nat_lt MAX_FILE (length bytes) ≡ b → IsRight (Some bytes)
by_size bytes true is = record {
  found = subst (λ f. IsFound (Some bytes) f) (sym (found_large bytes is)) (found_large bytes is);
  faultless = ap faults_of (found_large bytes is);
}
by_size bytes false is = record {
  found = subst (λ f. IsFound (Some bytes) f) (sym (found_small bytes is)) (found_small bytes is);
  faultless = ap faults_of (found_small bytes is);
}

is_right : (file : Option (List ℕ)) → IsRight file
is_right None = record { found = refl; faultless = refl }
is_right (Some bytes) = by_size bytes (nat_lt MAX_FILE (length bytes)) refl

-- ---- one line

record Step (A : Type 0) (state : State) (line : Line) (lines : List Line) (files : Contents) (command : Command) : Type 0 where
  events : List Event
  after : State
  rest : List Line
  lines_are : lines ≡ heard events ++ rest
  answers : UciSession.Answers A state (record { line = line; events = events; after = after }) rest command
  found : Finds (Some files) (opened events)
  faultless : faults_in (opened events) ≡ 0
  quiet : readings events ≡ []

at_least_one : (most n : ℕ) → 0 < cut_to most n
at_least_one most n = omega arith

module _ (A : Type 0) (a : A) (state : State) (asked : Line) (lines : List Line) (files : Contents) where
  plain : (command : Command) (text : List ℕ) (after : State)
      → UciSession.Answers A state (record { line = asked; events = Says text ∷ []; after = after }) lines command
      → Step A state asked lines files command
  plain command text after h = record {
    events = Says text ∷ [];
    after = after;
    rest = lines;
    lines_are = refl;
    answers = h;
    found = tt;
    faultless = refl;
    quiet = refl;
  }

  silent : (command : Command) (after : State)
      → UciSession.Answers A state (record { line = asked; events = []; after = after }) lines command
      → Step A state asked lines files command
  silent command after h = record {
    events = [];
    after = after;
    rest = lines;
    lines_are = refl;
    answers = h;
    found = tt;
    faultless = refl;
    quiet = refl;
  }

  -- what a line sets, or its fault
  sets : (command : Command) (o : Outcome)
      → ((turn : Turn State) → UciSession.Sets turn state [] o → UciSession.Answers A state turn lines command)
      → Step A state asked lines files command
  sets command (Ok after) h = silent command after (h _ (record { after_is = refl; events_are = refl }))
  sets command (Err fault) h = plain command _ state (h _ (record { after_is = refl; events_are = refl }))

  -- and of a file
  loaded : (turn : Turn State) (value : Option (List ℕ)) (name : List ℕ) (o : Outcome) → file_named value ≡ Some name
      → load state (found_of (files name)) ≡ o
      → UciSession.Sets turn state (Opens (record { name = name; found = found_of (files name) }) ∷ []) o
      → UciSession.Answers A state turn lines (line.SetOption (line.VariantPath value))
  loaded turn value name o named is h =
      subst (λ file. UciSession.LoadsFrom turn state (line.VariantPath value) file) (sym named) (record {
        found = found_of (files name);
        sets = subst (λ o. UciSession.Sets turn state (Opens (record { name = name; found = found_of (files name) }) ∷ []) o) (sym is) h;
      })

  loads_by : (value : Option (List ℕ)) (name : List ℕ) → file_named value ≡ Some name → (o : Outcome)
      → load state (found_of (files name)) ≡ o → Step A state asked lines files (line.SetOption (line.VariantPath value))
  loads_by value name named (Ok after) is = record {
    events = Opens (record { name = name; found = found_of (files name) }) ∷ [];
    after = after;
    rest = lines;
    lines_are = refl;
    answers =
        loaded (record { line = asked; events = Opens (record { name = name; found = found_of (files name) }) ∷ []; after = after })
        value name (Ok after) named is (record { after_is = refl; events_are = refl });
    found = ((is_right (files name)).found, tt);
    faultless = rw (is_right (files name)).faultless;
    quiet = refl;
  }
  loads_by value name named (Err fault) is = record {
    events = Opens (record { name = name; found = found_of (files name) }) ∷ Says (error_line fault) ∷ [];
    after = state;
    rest = lines;
    lines_are = refl;
    answers =
        loaded (record {
          line = asked;
          events = Opens (record { name = name; found = found_of (files name) }) ∷ Says (error_line fault) ∷ [];
          after = state;
        })
        value name (Err fault) named is (record { after_is = refl; events_are = refl });
    found = ((is_right (files name)).found, tt);
    faultless = rw (is_right (files name)).faultless;
    quiet = refl;
  }

  loads : (value file : Option (List ℕ)) → file_named value ≡ file
      → Step A state asked lines files (line.SetOption (line.VariantPath value))
  loads value None named =
      sets (line.SetOption (line.VariantPath value)) (set state (line.VariantPath value))
      (λ turn h. subst (λ file. UciSession.LoadsFrom turn state (line.VariantPath value) file) (sym named) h)
  loads value (Some name) named = loads_by value name named (load state (found_of (files name))) refl

  sets_option : (setting : Setting) → Step A state asked lines files (line.SetOption setting)
  sets_option (line.VariantPath value) = loads value (file_named value) refl
  sets_option (line.Threads value) = sets _ (set state (line.Threads value)) (λ turn h. h)
  sets_option (line.Hash value) = sets _ (set state (line.Hash value)) (λ turn h. h)
  sets_option (line.MateFacts value) = sets _ (set state (line.MateFacts value)) (λ turn h. h)
  sets_option (line.Variant value) = sets _ (set state (line.Variant value)) (λ turn h. h)
  sets_option line.Unknown = sets _ (set state line.Unknown) (λ turn h. h)

  -- ---- `go`, cut before its first depth

  heard_part : Heard lines
  heard_part = heard_of lines

  concludes : (go : Go) (best : Move) (following : List Line) (before : List Line) (after : State)
      → AreUnstopped Uci (map Hears before) → IsStopped Uci following → after ≡ UciSession.announced state None
      → UciSession.Concludes state go (record { line = asked; events = map Hears before ++ Says (best_line best) ∷ []; after = after })
      following [] best None
  concludes go best following before after unstopped stopped after_is = record {
    before = map Hears before;
    events_are = refl;
    unstopped = unstopped;
    lines_are = said_hears before;
    held = λ is. stopped;
    after_is = after_is;
  }

  record GoStep (go : Go) (perft mate : Option ℕ) (legal : List Move) : Type 0 where
    events : List Event
    after : State
    rest : List Line
    lines_are : lines ≡ heard events ++ rest
    answers : UciSession.GoesBy perft mate legal A state go (record { line = asked; events = events; after = after }) rest
    unread : opened events ≡ []
    quiet : readings events ≡ []

  goes_nowhere : (go : Go) (mate : Option ℕ) (b : Bool) → is_held go (mover state.game) ≡ b → GoStep go None mate []
  goes_nowhere go mate true is = record {
    events = map Hears heard_part.before ++ Says no_best_line ∷ [];
    after = UciSession.forgotten state;
    rest = heard_part.rest;
    lines_are = rw (heard_hears heard_part.before no_best_line) heard_part.lines_are;
    answers =
        subst (λ b. UciSession.GoesNowhere b state (record {
          line = asked;
          events = map Hears heard_part.before ++ Says no_best_line ∷ [];
          after = UciSession.forgotten state;
        }) heard_part.rest) (sym is) (record {
          before = map Hears heard_part.before;
          events_are = refl;
          unstopped = heard_part.unstopped;
          lines_are = said_hears heard_part.before;
          stopped = heard_part.stopped;
          after_is = refl;
        });
    unread = opened_hears heard_part.before no_best_line;
    quiet = readings_hears heard_part.before no_best_line;
  }
  goes_nowhere go mate false is = record {
    events = Says no_best_line ∷ [];
    after = UciSession.forgotten state;
    rest = lines;
    lines_are = refl;
    answers =
        subst (λ b. UciSession.GoesNowhere b state
        (record { line = asked; events = Says no_best_line ∷ []; after = UciSession.forgotten state }) lines)
        (sym is) (record { after_is = refl; events_are = refl });
    unread = refl;
    quiet = refl;
  }

  goes_by : (go : Go) (perft mate : Option ℕ) (legal : List Move) → GoStep go perft mate legal
  goes_by go (Some plies) mate legal = record {
    events = Says _ ∷ [];
    after = _;
    rest = lines;
    lines_are = refl;
    answers = record { after_is = refl; events_are = refl };
    unread = refl;
    quiet = refl;
  }
  goes_by go None mate [] = goes_nowhere go mate (is_held go (mover state.game)) refl
  goes_by go None (Some n) (first ∷ legal) = record {
    events = Says stopped_line ∷ (map Hears heard_part.before ++ Says (best_line first) ∷ []);
    after = UciSession.announced state None;
    rest = heard_part.rest;
    lines_are = rw (heard_hears heard_part.before (best_line first)) heard_part.lines_are;
    answers = (
      UciSession.Stopped 1 Interrupted,
      (
        record { some = omega arith; few = at_least_one 100 n; first = λ j some few. absurd (omega arith) },
        (a, heard_part.stopped),
        record {
          before = Says stopped_line ∷ map Hears heard_part.before;
          events_are = refl;
          unstopped = (tt, heard_part.unstopped);
          lines_are = ap (λ more. stopped_line ∷ more) (said_hears heard_part.before);
          held = λ is. heard_part.stopped;
          after_is = refl;
        },
      ),
    );
    unread = opened_hears heard_part.before (best_line first);
    quiet = readings_hears heard_part.before (best_line first);
  }
  goes_by go None None (first ∷ legal) = record {
    events = map Hears heard_part.before ++ Says (best_line (first_of first (task_of state go).roots)) ∷ [];
    after = UciSession.announced state None;
    rest = heard_part.rest;
    lines_are = rw (heard_hears heard_part.before (best_line (first_of first (task_of state go).roots))) heard_part.lines_are;
    answers = record {
      reports = [];
      ending = InSearch Interrupted;
      deepens = record { valued = tt; ended = (at_least_one 64 (unwrap_or go.depth 64), (a, heard_part.stopped)) };
      concludes = concludes go (first_of first (task_of state go).roots) heard_part.rest heard_part.before (UciSession.announced state None)
          heard_part.unstopped heard_part.stopped refl;
    };
    unread = opened_hears heard_part.before (best_line (first_of first (task_of state go).roots));
    quiet = readings_hears heard_part.before (best_line (first_of first (task_of state go).roots));
  }

  goes : (go : Go) → Step A state asked lines files (line.Go go)
  goes go = with_part (goes_by go go.perft go.mate (legal_in state.game))
    where
      with_part : GoStep go go.perft go.mate (legal_in state.game) → Step A state asked lines files (line.Go go)
      with_part g = record {
        events = g.events;
        after = g.after;
        rest = g.rest;
        lines_are = g.lines_are;
        answers = g.answers;
        found = rw g.unread tt;
        faultless = rw g.unread;
        quiet = g.quiet;
      }

  -- ---- any line but `quit`

  step : (command : Command) → UciSession.is_quit command ≡ false → Step A state asked lines files command
  step line.Uci is = plain line.Uci _ state (record { after_is = refl; events_are = refl })
  step line.IsReady is = plain line.IsReady _ state (record { after_is = refl; events_are = refl })
  step line.NewGame is = silent line.NewGame (new_game state) (record { after_is = refl; events_are = refl })
  step (line.SetOption setting) is = sets_option setting
  step (line.Position placing) is = sets (line.Position placing) (place state placing) (λ turn h. h)
  step (line.Go go) is = goes go
  step line.Stop is = silent line.Stop state (record { after_is = refl; events_are = refl })
  step line.Idle is = silent line.Idle state (record { after_is = refl; events_are = refl })
  step line.Moves is = plain line.Moves _ state (record { after_is = refl; events_are = refl })
  step line.Status is = plain line.Status _ state (record { after_is = refl; events_are = refl })
  step line.Checkers is = plain line.Checkers _ state (record { after_is = refl; events_are = refl })
  step line.Strategy is = plain line.Strategy _ state (record { after_is = refl; events_are = refl })
  step line.Quit is = absurd (subst T is tt)
  step line.TooLong is = plain line.TooLong _ state (record { after_is = refl; events_are = refl })

-- a step of the protocol
uci_steps : (state : State) (asked : Line) (lines : List Line) (files : Contents) → uci.quits asked ≡ false
    → Outputs.Step uci state asked lines files
uci_steps state asked lines files is = as_step (step (Unit {0}) tt state asked lines files (command_of asked) is)
  where
    as_step : Step (Unit {0}) state asked lines files (command_of asked) → Outputs.Step uci state asked lines files
    as_step s = record {
      events = s.events;
      after = s.after;
      rest = s.rest;
      lines_are = s.lines_are;
      answers = s.answers;
      found = s.found;
      faultless = s.faultless;
      quiet = s.quiet;
    }

pub uci_has_output : HasOutput uci
uci_has_output = Outputs.has_output uci uci_steps
