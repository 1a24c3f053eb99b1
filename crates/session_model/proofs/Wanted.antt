-- The lines that a session wants are those that it takes.
use Rattle.std.proofs.Common.{◌≡◌, ◌∙◌, ℕ, suc, ◌+◌, List, [], ◌∷◌, ◌++◌, length, Bool, true, false, Some, None, Ok, Err, refl, sym, ap, subst, arith, append_assoc, length-append}
use Rattle.std.specs.Prelude.{Option, T}
use Rattle.std.specs.List.{AllByRecursion}
use Rattle.io_ports.specs.declared.dialect.Dialect.{Dialect}
use Rattle.io_ports.specs.declared.dialect.Dialect.TheVariants.{Uci, Cecp}
use Rattle.io_ports.specs.Files.{Read}
use Rattle.io_ports.specs.Heard.{is_stop, stops}
use Rattle.io_ports.specs.Lines as lines
use Rattle.io_ports.specs.Lines.{Line}
use Rattle.rules_model.specs.declared.moves.Move.{Move}
use Rattle.game_play.specs.Played.{legal_in}
use Rattle.watching.specs.Events.{Event, Hears, Says, Reads, Opens, AreUnstopped, heard_lines as heard}
use Rattle.session_model.proofs.Hearing.{hears_as_read}
use Rattle.session_model.specs.CecpLines as CecpLines
use Rattle.session_model.specs.CecpSession as CecpSession
use Rattle.session_model.specs.CecpSession.{cecp, saying}
use Rattle.session_model.specs.CecpState as CecpState
use Rattle.session_model.specs.Laws.{HearsUnstopping, LinesAreWanted, QuitsStop, heard_as}
use Rattle.session_model.specs.Mates.{mover}
use Rattle.session_model.specs.Turns.{Protocol, Turn, IsOver, ending_lines, lines_in, lines_wanted}
use Rattle.session_model.specs.UciGo.{Go, is_held, last_mate}
use Rattle.session_model.specs.UciLines as line
use Rattle.session_model.specs.UciLines.{Command, Setting, command_of}
use Rattle.session_model.specs.UciSession as UciSession
use Rattle.session_model.specs.UciSession.{uci}
use Rattle.session_model.specs.UciState as UciState

-- ---- a line that ends a session stops a search

stop_at_quit : (command : Command) → UciSession.is_quit command ≡ true → is_stop (heard_as command) ≡ true
stop_at_quit line.Quit h = refl
stop_at_quit line.Uci h = cc
stop_at_quit line.IsReady h = cc
stop_at_quit line.NewGame h = cc
stop_at_quit (line.SetOption setting) h = cc
stop_at_quit (line.Position placing) h = cc
stop_at_quit (line.Go go) h = cc
stop_at_quit line.Stop h = cc
stop_at_quit line.Idle h = cc
stop_at_quit line.Moves h = cc
stop_at_quit line.Status h = cc
stop_at_quit line.Checkers h = cc
stop_at_quit line.Strategy h = cc
stop_at_quit line.TooLong h = cc

pub uci_quits_stop : QuitsStop uci
unfolding command_of
uci_quits_stop (lines.Text text) h = ap is_stop (hears_as_read text) ∙ stop_at_quit (command_of (lines.Text text)) h
uci_quits_stop lines.TooLong h = cc

pub cecp_quits_stop : QuitsStop cecp
unfolding CecpLines.command_of
cecp_quits_stop (lines.Text []) h = cc
cecp_quits_stop (lines.Text (byte ∷ bytes)) h = refl
cecp_quits_stop lines.TooLong h = cc

-- ---- no line that is heard stops a search

-- no line among the events stops one
abbrev NoStop : Dialect → List Event → Type 0
NoStop dialect events = AllByRecursion (λ line. stops dialect line ≡ false) (heard events)

none_stops : (dialect : Dialect) (events : List Event) → AreUnstopped dialect events → NoStop dialect events
none_stops dialect [] h = tt
none_stops dialect (Hears line ∷ events) h = (h.0, none_stops dialect events h.1)
none_stops dialect (Says text ∷ events) h = none_stops dialect events h.1
none_stops dialect (Reads reading ∷ events) h = none_stops dialect events h.1
none_stops dialect (Opens read ∷ events) h = absurd h.0

none_stops_then : (dialect : Dialect) (events : List Event) (text : List ℕ) → AreUnstopped dialect events
    → NoStop dialect (events ++ Says text ∷ [])
none_stops_then dialect [] text h = tt
none_stops_then dialect (Hears line ∷ events) text h = (h.0, none_stops_then dialect events text h.1)
none_stops_then dialect (Says said ∷ events) text h = none_stops_then dialect events text h.1
none_stops_then dialect (Reads reading ∷ events) text h = none_stops_then dialect events text h.1
none_stops_then dialect (Opens read ∷ events) text h = absurd h.0

-- a text before events
saying_first : (dialect : Dialect) (text : List ℕ) (events : List Event) → NoStop dialect events → NoStop dialect (saying text ++ events)
saying_first dialect [] events h = h
saying_first dialect (byte ∷ bytes) events h = h

saying_alone : (dialect : Dialect) (text : List ℕ) → NoStop dialect (saying text)
saying_alone dialect [] = tt
saying_alone dialect (byte ∷ bytes) = tt

module _ (turn : Turn UciState.State) where
  plain : (after : UciState.State) (events : List Event) → UciSession.IsPlain turn after events → NoStop Uci events → NoStop Uci turn.events
  plain after events h k = subst (λ e. NoStop Uci e) (sym h.events_are) k

  sets : (state : UciState.State) (o : UciState.Outcome) → UciSession.Sets turn state [] o → NoStop Uci turn.events
  sets state (Ok after) h = plain after [] h tt
  sets state (Err fault) h = plain state _ h tt

  loads : (state : UciState.State) (read : Read) (o : UciState.Outcome) → UciSession.Sets turn state (Opens read ∷ []) o → NoStop Uci turn.events
  loads state read (Ok after) h = plain after _ h tt
  loads state read (Err fault) h = plain state _ h tt

  loads_from : (state : UciState.State) (setting : Setting) (file : Option (List ℕ)) → UciSession.LoadsFrom turn state setting file → NoStop Uci turn.events
  loads_from state setting None h = sets state (UciState.set state setting) h
  loads_from state setting (Some name) h = loads state _ (UciState.load state h.found) h.sets

  sets_option : (state : UciState.State) (setting : Setting) → UciSession.SetsOption turn state setting → NoStop Uci turn.events
  sets_option state (line.VariantPath value) h = loads_from state (line.VariantPath value) (UciState.file_named value) h
  sets_option state (line.Threads value) h = sets state _ h
  sets_option state (line.Hash value) h = sets state _ h
  sets_option state (line.MateFacts value) h = sets state _ h
  sets_option state (line.Variant value) h = sets state _ h
  sets_option state line.Unknown h = sets state _ h

  concludes : (before : List Event) (text : List ℕ) → turn.events ≡ before ++ Says text ∷ [] → AreUnstopped Uci before → NoStop Uci turn.events
  concludes before text are h = subst (λ e. NoStop Uci e) (sym are) (none_stops_then Uci before text h)

  module _ (A : Type 0) (state : UciState.State) (following : List Line) where
    nowhere : (go : Go) (held : Bool) → UciSession.GoesNowhere held state turn following → NoStop Uci turn.events
    nowhere go true h = concludes h.before _ h.events_are h.unstopped
    nowhere go false h = plain _ _ h tt

    mate : (go : Go) (last : ℕ) (first : Move) (answer : UciSession.MateAnswer)
        → UciSession.AnswersMate A state go last first turn following answer → NoStop Uci turn.events
    mate go last first (UciSession.Shown n s best) h = concludes h.3.before _ h.3.events_are h.3.unstopped
    mate go last first (UciSession.Unsettled n e) h = concludes h.2.concludes.before _ h.2.concludes.events_are h.2.concludes.unstopped
    mate go last first (UciSession.Stopped n cause) h = concludes h.2.before _ h.2.events_are h.2.unstopped
    mate go last first UciSession.NoMate h = concludes h.1.concludes.before _ h.1.concludes.events_are h.1.concludes.unstopped

    goes : (go : Go) (perft limit : Option ℕ) (legal : List Move) → UciSession.GoesBy perft limit legal A state go turn following → NoStop Uci turn.events
    goes go (Some plies) limit legal h = plain _ _ h tt
    goes go None limit [] h = nowhere go (is_held go (mover state.game)) h
    goes go None (Some n) (first ∷ legal) h = mate go (last_mate n) first h.0 h.1
    goes go None None (first ∷ legal) h = concludes h.concludes.before _ h.concludes.events_are h.concludes.unstopped

    answers : (command : Command) → UciSession.Answers A state turn following command → NoStop Uci turn.events
    answers line.Uci h = plain _ _ h tt
    answers line.IsReady h = plain _ _ h tt
    answers line.NewGame h = plain _ _ h tt
    answers (line.SetOption setting) h = sets_option state setting h
    answers (line.Position placing) h = sets state (UciState.place state placing) h
    answers (line.Go go) h = goes go go.perft go.mate (legal_in state.game) h
    answers line.Stop h = plain _ _ h tt
    answers line.Idle h = plain _ _ h tt
    answers line.Moves h = plain _ _ h tt
    answers line.Status h = plain _ _ h tt
    answers line.Checkers h = plain _ _ h tt
    answers line.Strategy h = plain _ _ h tt
    answers line.Quit h = absurd h
    answers line.TooLong h = plain _ _ h tt

pub uci_hears_unstopping : HearsUnstopping uci
uci_hears_unstopping A state turn following h = answers turn A state following (command_of turn.line) h

-- the events of a thinking, with a move or without
thought : (moveless : Bool) (turn : Turn CecpState.State) (text : List ℕ) (before : List Event) (state : CecpState.State) (best : Move)
    → AreUnstopped Cecp before → CecpSession.Concludes moveless turn (saying text ++ before) state best → NoStop Cecp turn.events
thought true turn text before state best unstopped h =
    subst (λ e. NoStop Cecp e) (sym h.0) (saying_first Cecp text before (none_stops Cecp before unstopped))
thought false turn text before state best unstopped h =
    subst (λ e. NoStop Cecp e) (sym (h.0 ∙ append_assoc (saying text) before _))
    (saying_first Cecp text _ (none_stops_then Cecp before _ unstopped))

thinks : (A : Type 0) (turn : Turn CecpState.State) (following : List Line) (thinking : Bool) (moves : List Move) (answer : CecpState.Answer)
    → CecpSession.ThinksFrom thinking moves A answer turn following → NoStop Cecp turn.events
thinks A turn following true (first ∷ moves) answer h =
    thought (CecpSession.is_moveless h.ending following) turn answer.text h.before answer.state _ h.unstopped h.concludes
thinks A turn following true [] answer h = subst (λ e. NoStop Cecp e) (sym h.0) (saying_alone Cecp answer.text)
thinks A turn following false moves answer h = subst (λ e. NoStop Cecp e) (sym h.0) (saying_alone Cecp answer.text)

pub cecp_hears_unstopping : HearsUnstopping cecp
cecp_hears_unstopping A state turn following h = thinks A turn following _ _ (CecpSession.answer_of state turn.line) h

-- ---- the lines that are wanted

module _ {S : Type 0} (p : Protocol S) where
  wanted_over : (rest : List Line) → IsOver p rest → lines_wanted p rest ≡ ending_lines rest
  wanted_over [] over = refl
  wanted_over (line ∷ lines) over = rw over

  not_quit : QuitsStop p → (line : Line) (b : Bool) → p.quits line ≡ b → stops p.dialect line ≡ false → p.quits line ≡ false
  not_quit quits line true is h = absurd (subst T (sym (quits line is) ∙ h) tt)
  not_quit quits line false is h = is

  -- lines that do not stop a search are wanted
  wanted_heard : QuitsStop p → (lines more : List Line) → AllByRecursion (λ line. stops p.dialect line ≡ false) lines
      → lines_wanted p (lines ++ more) ≡ length lines + lines_wanted p more
  wanted_heard quits [] more h = omega arith
  wanted_heard quits (line ∷ lines) more h =
      let goes_on : p.quits line ≡ false = not_quit quits line (p.quits line) refl h.0 in
      rw goes_on (ap suc (wanted_heard quits lines more h.1) ∙ omega arith)

  pub lines_are_wanted : QuitsStop p → HearsUnstopping p → LinesAreWanted p
  lines_are_wanted quits hears owed used state [] rest turns over = rw (wanted_over rest over) (omega arith)
  lines_are_wanted quits hears owed used state (turn ∷ turns) rest allowed over =
      let later = lines_are_wanted quits hears owed (used + p.bound state turn.line) turn.after turns rest allowed.2 over in
      let here = wanted_heard quits (heard turn.events) (lines_in turns ++ rest) (hears _ state turn _ allowed.1) in
      let count = length-append (heard turn.events) (lines_in turns) in
      rw (allowed.0, append_assoc (heard turn.events) (lines_in turns) rest, here, later, count) (omega arith)
