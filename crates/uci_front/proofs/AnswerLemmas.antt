-- The answer to any line.
use Rattle.std.proofs.Common.{◌≡◌, ◌∙◌, ◌⊎◌, inl, inr, ℕ, List, [], ◌∷◌, ◌++◌, Bool, true, false, Option, Some, None, Ok, Err, refl, sym, ap, subst}
use Rattle.std.proofs.lemmas.List.{append-nil}
use Rattle.std.specs.Io.KnownBytes.{Appends}
use Rattle.io_ports.specs.declared.dialect.Dialect.TheVariants.{Uci}
use Rattle.io_ports.specs.declared.source.Got.{Got}
use Rattle.io_ports.specs.declared.source.Got.TheVariants as got
use Rattle.io_ports.specs.Files.{Contents, Read}
use Rattle.io_ports.specs.Lines.{Line}
use Rattle.io_ports.specs.Sink.{AppendsFront}
use Rattle.io_ports.specs.Source.{Owed, Takes, got_lines}
use Rattle.io_ports.specs.Trace.{Moves}
use Rattle.session_model.proofs.Wider.{uci_is_wider}
use Rattle.session_model.specs.Turns.{Turn}
use Rattle.session_model.specs.UciLines as line
use Rattle.session_model.specs.UciLines.{Command, command_of}
use Rattle.session_model.specs.UciSession.{Answers, LoadsFrom, Sets, is_quit, uci}
use Rattle.session_model.specs.UciState.{State, Outcome, load}
use Rattle.session_model.specs.UciTexts.{error_line}
use Rattle.session_model.proofs.Ending.{further_none}
use Rattle.session_model.proofs.Lawful.{uci_is_lawful}
use Rattle.io_ports.proofs.Moved.{appends_none}
use Rattle.uci_front.proofs.Unanswered.{unserved_quiet}
use Rattle.watching.specs.Looks.{Moved}
use Rattle.session_model.proofs.Saying.{AnswersAlways, served_plain, unserved_plain}
use Rattle.session_model.specs.Lines.{got_line}
use Rattle.session_model.specs.Turned.{Served, Unserved, turn_of}
use Rattle.uci_front.proofs.PlainLemmas.{plain_lines, plain_opened, plain_readings, plain_written}
use Rattle.uci_front.specs.Plain.{Answering, IsNamedRead, plain_events, saying, text_said}
use Rattle.uci_lines.specs.declared.line.CommandKind.{CommandKind}
use Rattle.uci_lines.specs.declared.line.CommandKind.TheVariants as kind
use Rattle.uci_lines.specs.View.{command_with, line_got}
use Rattle.watching.specs.Events.{Event, Opens}

-- the same line
pub line_is : (next : Got) (text : List ℕ) → line_got next text ≡ got_line next text
line_is got.Line text = refl
line_is got.TooLong text = refl
line_is got.End text = refl
line_is got.Failed text = refl

abbrev pub is_quit_kind : CommandKind → Bool
is_quit_kind kind.Quit = true
is_quit_kind k = false

-- the kind of a line that ends the session
pub quit_is : (kind : CommandKind) (words : List (List ℕ)) → is_quit (command_with kind words) ≡ is_quit_kind kind
quit_is kind.Uci words = refl
quit_is kind.IsReady words = refl
quit_is kind.NewGame words = refl
quit_is kind.SetOption words = refl
quit_is kind.Position words = refl
quit_is kind.Go words = refl
quit_is kind.Stop words = refl
quit_is kind.Idle words = refl
quit_is kind.Moves words = refl
quit_is kind.Status words = refl
quit_is kind.Checkers words = refl
quit_is kind.Strategy words = refl
quit_is kind.Quit words = refl
quit_is kind.TooLong words = refl

-- what answers a command answers its line, whatever may interrupt a search
pub always : (state after : State) (asked : Line) (command : Command) (events : List Event) → command ≡ command_of asked
    → Answering state after command events → AnswersAlways uci state after asked events
unfolding turn_of
always state after asked command events is answers A following =
    uci_is_wider ⊥ A (λ h. absurd h) state (record { line = asked; events = events; after = after }) following
    (subst (λ c. Answers ⊥ state (record { line = asked; events = events; after = after }) following c) is
    (answers (record { line = asked; events = events; after = after }) following refl refl))

module _ {S K C : Type 0} {left : S → Option (List ℕ)} {taken : K → Option (List ℕ)} {given : C → Option (List ℕ)} {count last : C → ℕ} where
  -- a line was answered at once, and the next one is there
  pub served_plainly : {s s' : S} {k k' : K} (c : C) {owed owed' : Owed} (asked : List Read → Type 0) (reads : List Read) (text : Option (List ℕ))
      {state after : State} {line : Line} {next : Got} {text' : List ℕ} (command : Command) → command ≡ command_of line
      → Answering state after command (plain_events reads text) → asked reads
      → Appends (taken k) (taken k') (text_said text) → Takes (left s) (left s') (got_lines next text') → owed' ≡ owed
      → Served uci (Moves left taken given count last s s' k k' c c) asked owed owed' state after line next text'
  served_plainly {k = k} {k' = k'} c asked reads text {state = state} {after = after} {line = line} command is answers asks wrote takes same =
      served_plain uci c asked (plain_events reads text) (plain_lines reads text) (plain_readings reads text)
      (always state after line command (plain_events reads text) is answers)
      (subst asked (sym (plain_opened reads text)) asks)
      (subst (λ o. Appends (taken k) (taken k') o) (sym (plain_written Uci reads text)) wrote) takes same

  -- a front part of the answer was written
  pub unserved_plainly : (s : S) {k k' : K} (c : C) (asked : List Read → Type 0) (contents : Option Contents) (reads : List Read) (text : Option (List ℕ))
      {state : State} (after : State) {line : Line} (command : Command) → command ≡ command_of line
      → Answering state after command (plain_events reads text) → asked reads → AppendsFront (taken k) (taken k') (text_said text)
      → Unserved uci (Moves left taken given count last s s k k' c c) asked contents state line
  unserved_plainly s {k = k} {k' = k'} c asked contents reads text {state = state} after {line = line} command is answers asks wrote =
      unserved_plain uci s c asked contents after (plain_events reads text) reads [] (plain_lines reads text) (plain_readings reads text)
      (always state after line command (plain_events reads text) is answers) (plain_opened reads text ∙ sym (append-nil reads)) asks (further_none contents)
      (subst (λ o. AppendsFront (taken k) (taken k') o) (sym (plain_written Uci reads text)) wrote)

-- ---- a file was read, and there was no memory

-- what is answered after it
after_read : (state : State) (o : Outcome) → (after : State) × (text : Option (List ℕ)) × ((turn : Turn State) (before : List Event)
    → turn.after ≡ after → turn.events ≡ before ++ saying text → Sets turn state before o)
after_read state (Ok after) = (after, None, λ turn before is events. record { after_is = is; events_are = events ∙ append-nil before })
after_read state (Err fault) = (state, Some (error_line fault), λ turn before is events. record { after_is = is; events_are = events })

pub named_answer : (state : State) (command : Command) (reads : List Read) → IsNamedRead command reads
    → (after : State) × (text : Option (List ℕ)) × Answering state after command (plain_events reads text)
named_answer state command reads (value, name, found, command_is, named, reads_are) =
    let (after, text, sets) = after_read state (load state found) in (
      after,
      text,
      λ turn following is events.
          subst (λ c. Answers ⊥ state turn following c) (sym command_is)
          (subst (λ file. LoadsFrom turn state (line.VariantPath value) file) (sym named) (record {
            found = found;
            sets = sets turn (Opens (record { name = name; found = found }) ∷ []) is (events ∙ ap (λ r. plain_events r text) reads_are);
          })),
    )

-- ---- files

-- no file was read
pub served_unread : {moved : Moved} {owed owed' : Owed} {state after : State} {line : Line} {next : Got} {text : List ℕ}
    (asked : List Read → Type 0) → asked [] → Served uci moved (λ reads. reads ≡ []) owed owed' state after line next text
    → Served uci moved asked owed owed' state after line next text
served_unread asked none s = record {
  events = s.events;
  went = s.went;
  asks = subst asked (sym s.asks) none;
  answers = s.answers;
  spends = s.spends;
}

pub unserved_unread : {moved : Moved} {contents : Option Contents} {state : State} {line : Line}
    (asked : List Read → Type 0) → asked [] → Unserved uci moved (λ reads. reads ≡ []) contents state line
    → Unserved uci moved asked contents state line
unserved_unread asked none u = record {
  events = u.events;
  after = u.after;
  behind = u.behind;
  is_held = u.is_held;
  front = u.front;
  back = u.back;
  wrote = u.wrote;
  went = u.went;
  done = u.done;
  further = u.further;
  reads_are = u.reads_are;
  asks = subst asked (sym u.asks) none;
  more = u.more;
  answers = u.answers;
}

-- there was no memory, before a file was read or after it
pub unserved_read : {S K C : Type 0} {left : S → Option (List ℕ)} {taken : K → Option (List ℕ)} {given : C → Option (List ℕ)} {count last : C → ℕ}
    (s : S) (k : K) (c : C) (asked : List Read → Type 0) (contents : Option Contents) (state : State) (line : Line) (command : Command)
    (reads : List Read) → command ≡ command_of line → uci.quits line ≡ false → asked reads → (reads ≡ []) ⊎ IsNamedRead command reads
    → Unserved uci (Moves left taken given count last s s k k c c) asked contents state line
unserved_read s k c asked contents state line command reads is goes_on asks (inl none) =
    unserved_quiet uci uci_is_lawful.output s k c asked contents state line goes_on (subst asked none asks)
unserved_read {taken = taken} s k c asked contents state line command reads is goes_on asks (inr named) =
    let (after, text, answers) = named_answer state command reads named in
    unserved_plainly s c asked contents reads text after command is answers asks
    (record { front = []; back = text_said text; whole = refl; took = appends_none (taken k) })
