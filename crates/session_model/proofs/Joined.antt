-- Turns after other turns, events after other events, and what they leave.
use Rattle.std.proofs.Common.{◌≡◌, inl, inr, ℕ, ◌+◌, List, [], ◌∷◌, ◌++◌, Option, Some, None, refl, sym, ap, subst, ◌∙◌, append_assoc}
use Rattle.std.proofs.lemmas.Grind.{flat_map-append}
use Rattle.io_ports.specs.declared.dialect.Dialect.{Dialect}
use Rattle.io_ports.specs.Files.{Contents, Read}
use Rattle.io_ports.specs.Lines.{Line}
use Rattle.io_ports.specs.Owing.{Lacks}
use Rattle.io_ports.specs.Source.{Owed, Untold}
use Rattle.io_ports.specs.Trace.{faults_in}
use Rattle.watching.specs.Events.{Event, Hears, Says, Reads, Opens, AreUnstopped, Listens, heard_lines as heard, readings, reading_at, said, said_at}
use Rattle.session_model.specs.Deadlines.{IsReached, deadline_of}
use Rattle.session_model.specs.Events.{clocked}
use Rattle.session_model.specs.Laws.{HasOutput, IsWider}
use Rattle.session_model.specs.Turns.{Protocol, Turn, Turns, Session, after_turns, bound_in, lines_in}

-- ---- turns

lines_joined : {S : Type 0} (us vs : List (Turn S)) (following : List Line) → lines_in (us ++ vs) ++ following ≡ lines_in us ++ (lines_in vs ++ following)
lines_joined us vs following =
    ap (λ lines. lines ++ following) (flat_map-append (λ turn. turn.line ∷ heard turn.events) us vs)
    ∙ append_assoc (lines_in us) (lines_in vs) following

module _ {S : Type 0} (p : Protocol S) where
  -- turns before others, with the lines of those behind them
  pub turns_joined : (owed : Owed) (used : ℕ) (state : S) (us vs : List (Turn S)) (following : List Line)
      → Turns p owed used state us (lines_in vs ++ following)
      → Turns p owed (bound_in p used state us) (after_turns state us) vs following → Turns p owed used state (us ++ vs) following
  turns_joined owed used state [] vs following h k = k
  turns_joined owed used state (u ∷ us) vs following h k = (
    h.0,
    subst (λ lines. p.answers (Lacks owed (used + p.bound state u.line)) state u lines) (sym (lines_joined us vs following)) h.1,
    turns_joined owed (used + p.bound state u.line) u.after us vs following h.2 k,
  )

  pub turns_first : (owed : Owed) (used : ℕ) (state : S) (us vs : List (Turn S)) (following : List Line)
      → Turns p owed used state (us ++ vs) following → Turns p owed used state us (lines_in vs ++ following)
  turns_first owed used state [] vs following h = tt
  turns_first owed used state (u ∷ us) vs following h = (
    h.0,
    subst (λ lines. p.answers (Lacks owed (used + p.bound state u.line)) state u lines) (lines_joined us vs following) h.1,
    turns_first owed (used + p.bound state u.line) u.after us vs following h.2,
  )

  pub turns_later : (owed : Owed) (used : ℕ) (state : S) (us vs : List (Turn S)) (following : List Line)
      → Turns p owed used state (us ++ vs) following → Turns p owed (bound_in p used state us) (after_turns state us) vs following
  turns_later owed used state [] vs following h = h
  turns_later owed used state (u ∷ us) vs following h = turns_later owed (used + p.bound state u.line) u.after us vs following h.2

  -- turns are allowed where polls are untold, whatever was used
  pub turns_untold : IsWider p → (owed : Owed) (used used' : ℕ) (state : S) (turns : List (Turn S)) (following : List Line)
      → Turns p owed used state turns following → Turns p Untold used' state turns following
  turns_untold wider owed used used' state [] following h = tt
  turns_untold wider owed used used' state (turn ∷ turns) following h = (
    h.0,
    wider _ _ (λ lacks. tt) state turn (lines_in turns ++ following) h.1,
    turns_untold wider owed (used + p.bound state turn.line) (used' + p.bound state turn.line) turn.after turns following h.2,
  )

  -- some output is allowed, whether the contents of files are told or not
  pub quiet_output : HasOutput p → (state : S) (files : Option Contents) (lines : List Line)
      → (reads : List Read) × (output : List ℕ) × Session S p Untold state files reads lines [] output × (faults_in reads ≡ 0)
  quiet_output has state (Some files) lines = has state files lines
  quiet_output has state None lines =
      let (reads, output, session, faultless) = has state (λ name. None) lines in (
        reads,
        output,
        record {
          turns = session.turns;
          rest = session.rest;
          lines_are = session.lines_are;
          over = session.over;
          allowed = session.allowed;
          reads_are = session.reads_are;
          found = tt;
          readings_are = session.readings_are;
          output_is = session.output_is;
        },
        faultless,
      )

-- ---- events

pub said-append : (a b : List Event) → said (a ++ b) ≡ said a ++ said b
said-append a b = flat_map-append said_at a b

pub readings-append : (a b : List Event) → readings (a ++ b) ≡ readings a ++ readings b
readings-append a b = flat_map-append reading_at a b

-- a text behind events reads no clock
pub readings_said : (events : List Event) (text : List ℕ) → readings (events ++ Says text ∷ []) ≡ readings events
readings_said [] text = refl
readings_said (Hears line ∷ events) text = readings_said events text
readings_said (Says before ∷ events) text = readings_said events text
readings_said (Reads reading ∷ events) text = ap (λ more. reading ∷ more) (readings_said events text)
readings_said (Opens read ∷ events) text = readings_said events text

pub unstopped_more : (dialect : Dialect) (a b : List Event) → AreUnstopped dialect a → AreUnstopped dialect b → AreUnstopped dialect (a ++ b)
unstopped_more dialect [] b h k = k
unstopped_more dialect (event ∷ a) b h k = (h.0, unstopped_more dialect a b h.1 k)

-- the reading since the last text and the last line
pub clock_left : Option ℕ → List Event → Option ℕ
clock_left last [] = last
clock_left last (Hears line ∷ events) = clock_left None events
clock_left last (Says text ∷ events) = clock_left None events
clock_left last (Reads reading ∷ events) = clock_left (Some reading) events
clock_left last (Opens read ∷ events) = clock_left last events

pub clocked_append : (last : Option ℕ) (a b : List Event) → clocked last (a ++ b) ≡ clocked last a ++ clocked (clock_left last a) b
unfolding clocked clock_left
clocked_append last [] b = refl
clocked_append last (Hears line ∷ a) b = clocked_append None a b
clocked_append last (Says text ∷ a) b = ap (λ more. last ∷ more) (clocked_append None a b)
clocked_append last (Reads reading ∷ a) b = clocked_append (Some reading) a b
clocked_append last (Opens read ∷ a) b = clocked_append last a b

-- a search that listens says nothing
pub clocked_listens : (dialect : Dialect) (last : Option ℕ) (events : List Event) → Listens dialect events → clocked last events ≡ []
unfolding clocked
clocked_listens dialect last [] h = refl
clocked_listens dialect last (Hears line ∷ events) h = clocked_listens dialect None events h.1
clocked_listens dialect last (Says text ∷ events) h = absurd h.0
clocked_listens dialect last (Reads reading ∷ events) h = clocked_listens dialect (Some reading) events h.1
clocked_listens dialect last (Opens read ∷ events) h = absurd h.0

-- ---- readings and deadlines

pub reached_behind : (deadline : Option ℕ) (a b : List ℕ) → IsReached deadline b → IsReached deadline (a ++ b)
reached_behind None a b h = h
reached_behind (Some deadline) [] b h = h
reached_behind (Some deadline) (reading ∷ a) b h = inr (reached_behind (Some deadline) a b h)

pub reached_before : (deadline : Option ℕ) (a b : List ℕ) → IsReached deadline a → IsReached deadline (a ++ b)
reached_before None a b h = h
reached_before (Some deadline) [] b h = absurd h
reached_before (Some deadline) (reading ∷ a) b (inl late) = inl late
reached_before (Some deadline) (reading ∷ a) b (inr later) = inr (reached_before (Some deadline) a b later)

-- the deadline depends on the first reading alone
pub deadline_first : (time : Option ℕ) (first : ℕ) (a b : List ℕ) → deadline_of time (first ∷ a) ≡ deadline_of time (first ∷ b)
deadline_first None first a b = refl
deadline_first (Some time) first a b = refl
