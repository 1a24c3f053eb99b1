-- Short sessions from any state, as they are written.
use Rattle.std.proofs.Common.{◌≡◌, ℕ, List, [], ◌∷◌, ◌++◌, length, Option, Some, None, true, false, refl, sym, ap, subst, Bool, arith}
use Rattle.std.specs.Prelude.{codes, T}
use Rattle.io_ports.specs.declared.dialect.Dialect.TheVariants.{Uci, Cecp}
use Rattle.io_ports.specs.Files.{Contents, Read, Finds, Found, Bytes, Missing, TooLarge, Fault}
use Rattle.io_ports.specs.Lines as lines
use Rattle.io_ports.specs.Lines.{Line, Text}
use Rattle.io_ports.specs.Source.{Endless}
use Rattle.foundation.specs.Numbers.{are_digits, value_after}
use Rattle.session_model.specs.CecpLines as CecpLines
use Rattle.session_model.specs.CecpSession as CecpSession
use Rattle.session_model.specs.CecpSession.{cecp}
use Rattle.session_model.specs.CecpState as CecpState
use Rattle.watching.specs.Events.{Event, Says, Hears, Reads, written, said, heard_lines as heard}
use Rattle.session_model.specs.Events.{IsStopped}
use Rattle.session_model.specs.Numbers.{number_read}
use Rattle.session_model.specs.Turns.{Session, Turn, Turns, lines_in, lines_wanted, output_in}
use Rattle.session_model.specs.UciGo.{asks_nothing, Go, go_words}
use Rattle.session_model.specs.UciLines.{command_of, placing_of, setting_of}
use Rattle.session_model.specs.UciSession.{uci, forgotten, GoesBy}
use Rattle.session_model.specs.UciState.{State, place, set}
use Rattle.session_model.specs.UciTexts.{no_best_line}

unfoldable sessions_opened : Unit {0}
unfolding are_digits value_after number_read go_words command_of placing_of setting_of place set CecpLines.command_of CecpState.thinks CecpSession.bound_of
sessions_opened = tt

-- a line that is ready, one that is too long, a faulty position, and what follows `quit`
abbrev asked : List Line
asked = Text (codes "isready") ∷ lines.TooLong ∷ Text (codes "position here") ∷ Text (codes "quit") ∷ Text (codes "isready") ∷ []

abbrev answered : List ℕ
answered = codes "readyok\ninfo string error LineFault 1 TooLong\ninfo string error PositionFault 4 NoPosition\n"

abbrev turn : State → Line → List ℕ → Turn State
turn state line text = record { line = line; events = Says text ∷ []; after = state }

none_found : (files : Option Contents) → Finds files []
none_found None = tt
none_found (Some files) = tt

in_uci : (state : State) (files : Option Contents) → Session State uci Endless state files [] asked [] answered
unfolding sessions_opened
in_uci state files = record {
  turns = turn state (Text (codes "isready")) (codes "readyok\n")
      ∷ turn state lines.TooLong (codes "info string error LineFault 1 TooLong\n")
      ∷ turn state (Text (codes "position here")) (codes "info string error PositionFault 4 NoPosition\n") ∷ [];
  rest = Text (codes "quit") ∷ Text (codes "isready") ∷ [];
  lines_are = refl;
  over = refl;
  allowed = (
    refl,
    record { after_is = refl; events_are = refl },
    (refl, record { after_is = refl; events_are = refl }, (refl, record { after_is = refl; events_are = refl }, tt)),
  );
  reads_are = refl;
  found = none_found files;
  readings_are = refl;
  output_is = refl;
}

-- the engine plays no side: it answers and does not think
abbrev forced : CecpState.State → CecpState.State
forced state = record state { plays = None }

abbrev cecp_turn : CecpState.State → Line → List ℕ → Turn CecpState.State
cecp_turn state line text = record { line = line; events = Says text ∷ []; after = state }

in_cecp : (state : CecpState.State) (files : Option Contents)
    → Session CecpState.State cecp Endless (forced state) files [] (Text (codes "ping 05") ∷ Text (codes "hint") ∷ Text (codes "quit") ∷ []) []
    (codes "pong 05\nError (unknown command): hint\n")
unfolding sessions_opened
in_cecp state files = record {
  turns = cecp_turn (forced state) (Text (codes "ping 05")) (codes "pong 05\n")
      ∷ cecp_turn (forced state) (Text (codes "hint")) (codes "Error (unknown command): hint\n") ∷ [];
  rest = Text (codes "quit") ∷ [];
  lines_are = refl;
  over = refl;
  allowed = (refl, (refl, refl), (refl, (refl, refl), tt));
  reads_are = refl;
  found = none_found files;
  readings_are = refl;
  output_is = refl;
}

-- ---- nothing is read behind `quit`

abbrev quitting : List Line
quitting = Text (codes "quit") ∷ Text (codes "ping 1") ∷ []

-- it is not answered
over_at_quit : (state : CecpState.State) (files : Option Contents) → Session CecpState.State cecp Endless state files [] quitting [] []
unfolding sessions_opened
over_at_quit state files = record {
  turns = [];
  rest = quitting;
  lines_are = refl;
  over = refl;
  allowed = tt;
  reads_are = refl;
  found = none_found files;
  readings_are = refl;
  output_is = refl;
}

abbrev first_line : List Line → Line
first_line [] = lines.TooLong
first_line (line ∷ more) = line

quits_here : cecp.quits (Text (codes "quit")) ≡ true
unfolding sessions_opened
quits_here = refl

no_turns : (state : CecpState.State) (turns : List (Turn CecpState.State)) (rest : List Line) → quitting ≡ lines_in turns ++ rest
    → Turns cecp Endless 0 state turns rest → codes "pong 1\n" ≡ output_in Cecp turns → ⊥
no_turns state [] rest are allowed output =
    let some : 7 ≡ 0 = ap length output in absurd (omega (arith, some))
no_turns state (turn ∷ turns) rest are allowed output =
    let same : cecp.quits (Text (codes "quit")) ≡ false =
    subst (λ line. cecp.quits line ≡ false) (sym (ap first_line are)) allowed.0 in
    let wrong : true ≡ false = rw (sym quits_here) same in absurd (subst T wrong tt)

-- near miss: and so `pong 1` is refused
not_answered : (state : CecpState.State) (files : Option Contents)
    → Session CecpState.State cecp Endless state files [] quitting [] (codes "pong 1\n") → ⊥
not_answered state files s = no_turns state s.turns s.rest s.lines_are s.allowed s.output_is

-- ---- a search that hears a line, and is stopped by another

abbrev stopped : List Event
stopped = Says (codes "info depth 1 score cp 12 pv b1c3\n") ∷ Hears (Text (codes "isready")) ∷ Says (codes "bestmove b1c3\n") ∷ []

answers_between : written Uci stopped ≡ codes "info depth 1 score cp 12 pv b1c3\nreadyok\nbestmove b1c3\n"
answers_between = refl

its_own_lines : said stopped ≡ codes "info depth 1 score cp 12 pv b1c3\n" ∷ codes "bestmove b1c3\n" ∷ []
its_own_lines = refl

lines_heard : heard stopped ≡ Text (codes "isready") ∷ []
lines_heard = refl

stops_here : IsStopped Uci (Text (codes "stop") ∷ Text (codes "status") ∷ [])
stops_here = refl

-- ---- the lines that are wanted

four_wanted : lines_wanted uci asked ≡ 4
unfolding sessions_opened
four_wanted = refl

one_wanted : lines_wanted cecp quitting ≡ 1
unfolding sessions_opened
one_wanted = refl

-- near miss: where nothing quits, all are
all_wanted : lines_wanted cecp (Text (codes "ping 1") ∷ Text (codes "quitx") ∷ Text (codes "hint") ∷ []) ≡ 3
unfolding sessions_opened
all_wanted = refl

-- ---- no move is legal

abbrev infinite : Go
infinite = record asks_nothing { holds = true }

abbrev held_turn : State → List Event → Turn State
held_turn state events = record { line = Text (codes "go infinite"); events = events; after = forgotten state }

-- `bestmove (none)` comes where a line stops it, after others are heard and the clock was read
held_here : (state : State)
    → GoesBy None None [] ⊥ state infinite
    (held_turn state (Hears (Text (codes "isready")) ∷ Reads 7 ∷ Says no_best_line ∷ [])) (Text (codes "stop") ∷ [])
held_here state = record {
  before = Hears (Text (codes "isready")) ∷ Reads 7 ∷ [];
  events_are = refl;
  unstopped = (refl, (tt, tt));
  lines_are = refl;
  stopped = refl;
  after_is = refl;
}

-- near miss: not before a line that does not stop it
not_at_once : (state : State)
    → GoesBy None None [] ⊥ state infinite (held_turn state (Says no_best_line ∷ [])) (Text (codes "isready") ∷ Text (codes "stop") ∷ [])
    → ⊥
not_at_once state h = let wrong : false ≡ true = h.stopped in absurd (subst T (sym wrong) tt)

-- with a limit it comes at once
at_once : (state : State)
    → GoesBy None None [] ⊥ state (record asks_nothing { depth = Some 3 }) (held_turn state (Says no_best_line ∷ []))
    (Text (codes "isready") ∷ [])
at_once state = record { after_is = refl; events_are = refl }

-- ---- reads of files

-- of one file two reads may find two things, where the files tell nothing
abbrev read_twice : List Read
read_twice = record { name = codes "a"; found = Missing } ∷ record { name = codes "a"; found = TooLarge } ∷ []

untold_twice : Finds None read_twice
untold_twice = tt

abbrev is_missing : Found → Bool
is_missing (Bytes bytes) = false
is_missing Missing = true
is_missing TooLarge = false
is_missing Fault = false

-- near miss: where they tell, no contents agree
not_told_twice : (files : Contents) → Finds (Some files) read_twice → ⊥
not_told_twice files h = let wrong : true ≡ false = subst (λ f. is_missing f ≡ false) h.0 (ap is_missing h.1.0) in absurd (subst T wrong tt)
