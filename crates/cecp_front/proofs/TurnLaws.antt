-- How the answer to a line and a thinking make a turn.
use Rattle.std.proofs.Common.{◌≡◌, ◌∙◌, ℕ, ◌<◌, ◌≤◌, List, [], ◌∷◌, ◌++◌, length, Option, Some, None, Result, Ok, Err, IfOk, OnErr, Bool, true, false, ◌⊎◌, inl, inr, refl, sym, ap, subst, append_assoc, arith}
use Rattle.std.specs.Prelude.{⊤, if◌then◌else◌, is_some, not}
use Rattle.std.specs.Io.KnownBytes.{Appends}
use Rattle.std.proofs.lemmas.Bool.{and_parts, ltb-true}
use Rattle.std.proofs.lemmas.List.{append-nil}
use Rattle.foundation.specs.Tests.{is_nil}
use Rattle.io_ports.specs.declared.dialect.Dialect.TheVariants.{Cecp}
use Rattle.io_ports.specs.Cause.{Rose}
use Rattle.io_ports.specs.Files.{Contents}
use Rattle.io_ports.specs.Lines.{Line}
use Rattle.io_ports.specs.Owing.{Lacks, Spends}
use Rattle.io_ports.specs.Sink.{AppendsFront}
use Rattle.io_ports.specs.Source.{Owed, Takes, got_lines}
use Rattle.io_ports.specs.Trace.{Moves}
use Rattle.io_ports.specs.declared.source.Got.{Got}
use Rattle.io_ports.specs.declared.source.Got.TheVariants as got
use Rattle.io_ports.proofs.Moved.{appends_none, moves_at, moves_more, moves_sink, moves_source}
use Rattle.io_ports.proofs.Owing.{spends_none}
use Rattle.rules_model.specs.declared.moves.Move.{Move}
use Rattle.game_play.specs.Played.{legal_in}
use Rattle.game_text.specs.Playing.{most_plies}
use Rattle.watching.specs.EventLaws.{written-append}
use Rattle.watching.specs.Events.{Event, heard_lines, opened, readings, written}
use Rattle.session_model.specs.CecpLines.{command_of}
use Rattle.session_model.specs.CecpSession.{Answers, Posts, Thinks, ThinksFrom, answer_of, bound_from, bound_of, cecp, depth_for, lowered, saying, time_for}
use Rattle.session_model.specs.CecpState.{State, is_turn, thinks}
use Rattle.session_model.specs.Events.{after_reading, clocked}
use Rattle.session_model.specs.Mates.{mover}
use Rattle.session_model.specs.Thinking.{Interrupted, InSearch}
use Rattle.session_model.specs.Lines.{HasLine, got_line, none}
use Rattle.session_model.specs.Turned.{Further, Served, Unserved, turn_of}
use Rattle.cecp_front.specs.Reading.{NoReads}
use Rattle.cecp_front.specs.Thought.{IsFirst, Thought, Unthought}
use Rattle.cecp_front.proofs.ThoughtLaws.{closed, closing, thinks_at}

-- ---- where the engine thinks

some_move : (legal : List Move) → not (is_nil legal) ≡ true → (first : Move) × (more : List Move) × (legal ≡ first ∷ more)
some_move [] h = absurd (cc)
some_move (first ∷ more) h = (first, more, refl)

-- a move is legal, and there is room for one
pub has_first : (state : State) → thinks state ≡ true → (first : Move) × IsFirst state first
unfolding thinks
has_first state h =
    let turn = and_parts (is_turn state.plays (mover state.game)) _ h in
    let going = and_parts (not state.is_over) _ turn.1 in
    let some = some_move (legal_in state.game) (and_parts (not (is_nil (legal_in state.game))) _ going.1).0 in
    (some.0, (some.1, some.2))

pub has_room : (state : State) → thinks state ≡ true → length state.game.moves < most_plies
unfolding thinks
has_room state h =
    let turn = and_parts (is_turn state.plays (mover state.game)) _ h in
    let going = and_parts (not state.is_over) _ turn.1 in
    ltb-true _ _ (and_parts (not (is_nil (legal_in state.game))) _ going.1).1

-- ---- a text before events

said_written : (text : List ℕ) → written Cecp (saying text) ≡ text
said_written [] = refl
said_written (byte ∷ bytes) = append-nil (byte ∷ bytes)

said_heard : (text : List ℕ) (events : List Event) → heard_lines (saying text ++ events) ≡ heard_lines events
said_heard [] events = refl
said_heard (byte ∷ bytes) events = refl

said_opened : (text : List ℕ) (events : List Event) → opened (saying text ++ events) ≡ opened events
said_opened [] events = refl
said_opened (byte ∷ bytes) events = refl

said_read : (text : List ℕ) (events : List Event) → readings (saying text ++ events) ≡ readings events
said_read [] events = refl
said_read (byte ∷ bytes) events = refl

said_more : (text : List ℕ) (events : List Event) → written Cecp (saying text ++ events) ≡ text ++ written Cecp events
said_more text events = written-append Cecp (saying text) events ∙ ap (λ t. t ++ written Cecp events) (said_written text)

-- ---- a turn

-- the engine does not think
silent_turn : (A : Type 0) (state : State) (line : Line) (following : List Line) → thinks (answer_of state line).state ≡ false
    → Answers A state (turn_of line (saying (answer_of state line).text) (answer_of state line).state) following (answer_of state line)
unfolding turn_of
silent_turn A state line following quiet =
    let answer = answer_of state line in
    subst (λ (b : Bool). ThinksFrom b (legal_in answer.state.game) A answer (turn_of line (saying answer.text) answer.state) following) (sym quiet)
    (refl, refl)

-- it thinks
thinking_turn : (A : Type 0) (state : State) (line : Line) (first : Move) (more : List Move) (events : List Event) (after : State) (following : List Line)
    → thinks (answer_of state line).state ≡ true → legal_in (answer_of state line).state.game ≡ first ∷ more
    → Thinks A (answer_of state line).state first (saying (answer_of state line).text) (turn_of line events after) following
    → Answers A state (turn_of line events after) following (answer_of state line)
thinking_turn A state line first more events after following thinking is h =
    let answer = answer_of state line in
    subst (λ (b : Bool). ThinksFrom b (legal_in answer.state.game) A answer (turn_of line events after) following) (sym thinking)
    (subst (λ (moves : List Move). ThinksFrom true moves A answer (turn_of line events after) following) (sym is) h)

thinking_bound : (state : State) → thinks state ≡ true → bound_of state ≡ bound_from true state
unfolding bound_of
thinking_bound state thinking = ap (λ b. bound_from b state) thinking

-- no file is left to be asked for
none_further : (contents : Option Contents) → Further contents []
none_further None = record { found = tt; works = refl }
none_further (Some contents) = record { found = tt; works = refl }

-- ---- completions

some_depth : (state : State) → 0 < depth_for state
some_depth state = lowered_some (if is_some (time_for state) then 64 else 4) state.sd (by_time (is_some (time_for state)))
  where
    lowered_some : (depth : ℕ) (sd : Option ℕ) → 0 < depth → 0 < lowered depth sd
    lowered_some depth None some = some
    lowered_some depth (Some sd) some = omega arith

    by_time : (b : Bool) → 0 < (if b then 64 else 4)
    by_time true = omega arith
    by_time false = omega arith

none_posted : (posts : Bool) → Posts posts [] []
unfolding clocked after_reading
none_posted false = refl
none_posted true = (refl, refl)

-- what may come after an answer where searches may be interrupted and no line is left: nothing, or a move that is made
-- before the first depth
record Completed (state : State) (line : Line) (thinking : Bool) (moves : List Move) : Type 0 where
  more : List Event
  after : State
  heard_is : heard_lines more ≡ []
  opened_is : opened more ≡ []
  read_is : readings more ≡ []
  answers : ThinksFrom thinking moves ⊤ (answer_of state line)
      (turn_of line (saying (answer_of state line).text ++ more) after) []

silently : (state : State) (line : Line) (thinking : Bool) (moves : List Move)
    → ThinksFrom thinking moves ⊤ (answer_of state line) (turn_of line (saying (answer_of state line).text ++ []) (answer_of state line).state) []
    → Completed state line thinking moves
silently state line thinking moves h = record {
  more = [];
  after = (answer_of state line).state;
  heard_is = refl;
  opened_is = refl;
  read_is = refl;
  answers = h;
}

completed : (state : State) (line : Line) (thinking : Bool) (moves : List Move) → Completed state line thinking moves
unfolding turn_of
completed state line false moves = silently state line false moves (append-nil (saying (answer_of state line).text), refl)
completed state line true [] = silently state line true [] (append-nil (saying (answer_of state line).text), refl)
completed state line true (first ∷ moves) =
    let answer = answer_of state line in
    record {
      more = closing false answer.state first;
      after = closed false answer.state first;
      heard_is = refl;
      opened_is = refl;
      read_is = refl;
      answers = thinks_at ⊤ answer.state first first [] (InSearch Interrupted) (saying answer.text) [] line [] false refl refl tt
          (none_posted answer.state.posts) (record { valued = tt; ended = (some_depth answer.state, (tt, tt)) });
    }

-- ---- a line

module _ {S K C : Type 0} {left : S → Option (List ℕ)} {taken : K → Option (List ℕ)} {given : C → Option (List ℕ)} {count last : C → ℕ}
    (state : State) (line : Line) where
  -- it was answered, and the engine does not think
  pub served_silent : {s s' : S} {k k' : K} (c : C) (o o' : Owed) (next : Got) (text : List ℕ)
      → thinks (answer_of state line).state ≡ false → Appends (taken k) (taken k') (answer_of state line).text
      → Takes (left s) (left s') (got_lines next text) → o' ≡ o
      → Served cecp (Moves left taken given count last s s' k k' c c) NoReads o o' state (answer_of state line).state line next text
  unfolding turn_of
  served_silent {s = s} {k' = k'} c o o' next text quiet wrote takes same =
      let answer = answer_of state line in
      let events_are : saying answer.text ++ [] ≡ saying answer.text = append-nil (saying answer.text) in
      record {
        events = saying answer.text;
        went = moves_at (moves_more (moves_sink s c wrote) (moves_source k' c takes))
            (ap (λ l. l ++ got_lines next text) (sym (ap heard_lines (sym events_are) ∙ said_heard answer.text [])))
            (append-nil answer.text ∙ sym (said_written answer.text))
            (sym (ap readings (sym events_are) ∙ said_read answer.text []));
        asks = ap opened (sym events_are) ∙ said_opened answer.text [];
        answers = λ following may. silent_turn _ state line (got_lines next text ++ following) quiet;
        spends = subst (λ (x : Owed). Spends o x (bound_of answer.state)) (sym same) (spends_none o (bound_of answer.state));
      }

  -- it was answered, and the engine thought
  pub served_thought : {s s' : S} {k k' k'' : K} {c c' : C} {o o' : Owed} (after : State) (first : Move) (next : Got) (text : List ℕ)
      → thinks (answer_of state line).state ≡ true → IsFirst (answer_of state line).state first
      → Appends (taken k) (taken k') (answer_of state line).text
      → Thought (Moves left taken given count last s s' k' k'' c c') o o' (answer_of state line).state after first next text
      → Served cecp (Moves left taken given count last s s' k k'' c c') NoReads o o' state after line next text
  unfolding turn_of
  served_thought {s = s} {c = c} {o = o} {o' = o'} after first next text thinking (more, is) wrote t =
      let answer = answer_of state line in
      let bound = thinking_bound answer.state thinking in
      record {
        events = saying answer.text ++ t.events;
        went = moves_at (moves_more (moves_sink s c wrote) t.went)
            (ap (λ l. l ++ got_lines next text) (sym (said_heard answer.text t.events)))
            (sym (said_more answer.text t.events))
            (sym (said_read answer.text t.events));
        asks = said_opened answer.text t.events ∙ t.unopened;
        answers = λ following may.
            thinking_turn (Lacks o (bound_of answer.state)) state line first more (saying answer.text ++ t.events) after (got_lines next text ++ following) thinking is
            (subst (λ (n : ℕ). Thinks (Lacks o n) answer.state first (saying answer.text) (turn_of line (saying answer.text ++ t.events) after) (got_lines next text ++ following)) (sym bound)
            (t.thinks (saying answer.text) line following may));
        spends = subst (λ (n : ℕ). Spends o o' n) (sym bound) t.spends;
      }

  -- its answer was written in part
  pub unserved_answer : (s : S) {k k' : K} (c : C) (contents : Option Contents) → AppendsFront (taken k) (taken k') (answer_of state line).text
      → Unserved cecp (Moves left taken given count last s s k k' c c) NoReads contents state line
  unfolding turn_of
  unserved_answer s c contents wrote =
      let answer = answer_of state line in
      let done = completed state line (thinks answer.state) (legal_in answer.state.game) in
      record {
        events = saying answer.text ++ done.more;
        after = done.after;
        behind = [];
        is_held = none;
        front = wrote.front;
        back = wrote.back ++ written Cecp done.more;
        wrote = said_more answer.text done.more ∙ ap (λ t. t ++ written Cecp done.more) wrote.whole
            ∙ append_assoc wrote.front wrote.back (written Cecp done.more);
        went = moves_at (moves_sink s c wrote.took)
            (sym (append-nil (heard_lines (saying answer.text ++ done.more)) ∙ said_heard answer.text done.more ∙ done.heard_is))
            refl (sym (said_read answer.text done.more ∙ done.read_is));
        done = [];
        further = [];
        reads_are = said_opened answer.text done.more ∙ done.opened_is;
        asks = refl;
        more = none_further contents;
        answers = done.answers;
      }

  -- it was answered, and a fault came in the thinking
  pub unserved_thought : {s s' : S} {k k' k'' : K} {c c' : C} (contents : Option Contents) (first : Move)
      → thinks (answer_of state line).state ≡ true → IsFirst (answer_of state line).state first
      → Appends (taken k) (taken k') (answer_of state line).text
      → Unthought (Moves left taken given count last s s' k' k'' c c') (answer_of state line).state first
      → Unserved cecp (Moves left taken given count last s s' k k'' c c') NoReads contents state line
  unfolding turn_of
  unserved_thought {s = s} {c = c} contents first thinking (more, is) wrote t =
      let answer = answer_of state line in
      record {
        events = saying answer.text ++ t.events;
        after = t.after;
        behind = t.behind;
        is_held = t.is_held;
        front = answer.text ++ t.front;
        back = t.back;
        wrote = said_more answer.text t.events ∙ ap (λ l. answer.text ++ l) t.wrote ∙ sym (append_assoc answer.text t.front t.back);
        went = moves_at (moves_more (moves_sink s c wrote) t.went)
            (ap (λ l. l ++ t.behind) (sym (said_heard answer.text t.events))) refl (sym (said_read answer.text t.events));
        done = [];
        further = [];
        reads_are = said_opened answer.text t.events ∙ t.unopened;
        asks = refl;
        more = none_further contents;
        answers = thinking_turn ⊤ state line first more (saying answer.text ++ t.events) t.after t.behind thinking is (t.thinks (saying answer.text) line);
      }

-- ---- a line, as the code comes to it

pub rose_later : (a b c : ℕ) → a ≤ b → Rose b c → Rose a c
rose_later a b c le rose = omega arith

-- nothing of a text was written
pub front_none : (taken : Option (List ℕ)) (text : List ℕ) → AppendsFront taken taken text
front_none taken text = record { front = []; back = text; whole = refl; took = appends_none taken }

-- what is no line ends no session
pub long_goes_on : (next : Got) (text : List ℕ) → (next ≡ got.TooLong) ⊎ ((next ≡ got.End) ⊎ (next ≡ got.Failed))
    → false ≡ cecp.quits (got_line next text)
unfolding command_of
long_goes_on next text is = elim is [
  | inl long ↦ ap (λ n. cecp.quits (got_line n text)) (sym long)
  | inr other ↦ elim other [
    | inl end ↦ ap (λ n. cecp.quits (got_line n text)) (sym end)
    | inr failed ↦ ap (λ n. cecp.quits (got_line n text)) (sym failed)
  ]
]

-- the line that was taken ends the session or does not, by its text
pub last_as : (next : Got) (text line : List ℕ) (r b : Bool) → text ≡ line → r ≡ cecp.quits (got_line next text) → r ≡ b
    → cecp.quits (got_line next line) ≡ b
last_as next text line r b same is said = ap (λ t. cecp.quits (got_line next t)) (sym same) ∙ sym is ∙ said

pub is_line : (next : Got) → (next ≡ got.Line) ⊎ (next ≡ got.TooLong) → HasLine next
is_line next (inl line) = subst HasLine (sym line) tt
is_line next (inr long) = subst HasLine (sym long) tt

module _ {S K C : Type 0} (left : S → Option (List ℕ)) (taken : K → Option (List ℕ)) (given : C → Option (List ℕ)) (count last : C → ℕ)
    (s s' : S) (k k' : K) (c : C) (o o' : Owed) (state st : State) (line : Line) (told : st ≡ (answer_of state line).state)
    (wrote : Appends (taken k) (taken k') (answer_of state line).text) (b : Bool) (is : b ≡ thinks st) where
  pub line_silent : b ≡ false → (next : Got) (text : List ℕ) → Takes (left s) (left s') (got_lines next text) → o' ≡ o
      → Served cecp (Moves left taken given count last s s' k k' c c) NoReads o o' state st line next text
  line_silent quiet next text takes same =
      subst (λ (x : State). Served cecp (Moves left taken given count last s s' k k' c c) NoReads o o' state x line next text) (sym told)
      (served_silent state line c o o' next text (ap thinks (sym told) ∙ sym is ∙ quiet) wrote takes same)

  module _ (k'' : K) (c' : C) (thinking : b ≡ true) where
    thinks_here : thinks (answer_of state line).state ≡ true
    thinks_here = ap thinks (sym told) ∙ sym is ∙ thinking

    pub line_thought : {E : Type 0} (after : State) (text : List ℕ) (r : Result Got E)
        → IfOk r (λ next. (first : Move) → IsFirst st first
        → Thought (Moves left taken given count last s s' k' k'' c c') o o' st after first next text)
        → IfOk r (λ next. Served cecp (Moves left taken given count last s s' k k'' c c') NoReads o o' state after line next text)
    line_thought after text (Err why) h = tt
    line_thought after text (Ok next) h =
        let some = has_first (answer_of state line).state thinks_here in
        served_thought state line after some.0 next text thinks_here some.1 wrote
        (subst (λ (x : State). (first : Move) → IsFirst x first → Thought (Moves left taken given count last s s' k' k'' c c') o o' x after first next text) told h some.0 some.1)

    pub line_unthought : {A E : Type 0} (contents : Option Contents) (r : Result A E)
        → OnErr r ((first : Move) → IsFirst st first → Unthought (Moves left taken given count last s s' k' k'' c c') st first)
        → OnErr r (Unserved cecp (Moves left taken given count last s s' k k'' c c') NoReads contents state line)
    line_unthought contents (Ok x) h = tt
    line_unthought contents (Err why) h =
        let some = has_first (answer_of state line).state thinks_here in
        unserved_thought state line contents some.0 thinks_here some.1 wrote
        (subst (λ (x : State). (first : Move) → IsFirst x first → Unthought (Moves left taken given count last s s' k' k'' c c') x first) told h some.0 some.1)
