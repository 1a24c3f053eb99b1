-- How a search and a move make a thinking.
use Rattle.std.proofs.Common.{◌≡◌, ◌∙◌, ℕ, List, [], ◌∷◌, ◌++◌, Option, Some, None, Bool, true, false, refl, sym, ap, subst, append_assoc}
use Rattle.std.specs.Prelude.{⊤}
use Rattle.std.specs.Io.KnownBytes.{Appends}
use Rattle.std.proofs.lemmas.List.{append-nil}
use Rattle.io_ports.specs.declared.dialect.Dialect.TheVariants.{Cecp}
use Rattle.io_ports.specs.Lines.{Line, Text}
use Rattle.io_ports.specs.Owing.{Lacks}
use Rattle.io_ports.specs.Sink.{AppendsFront}
use Rattle.io_ports.specs.Source.{Owed, got_lines}
use Rattle.io_ports.specs.Trace.{Moves}
use Rattle.io_ports.specs.declared.source.Got.{Got}
use Rattle.io_ports.proofs.Moved.{moves_at, moves_more, moves_sink, moves_source}
use Rattle.rules_model.specs.declared.moves.Move.{Move}
use Rattle.watching.specs.declared.halt.Cut.{Cut}
use Rattle.watching.specs.declared.halt.Cut.TheVariants as cut
use Rattle.watching.specs.EventLaws.{heard_lines-append, readings-append, written-append}
use Rattle.watching.specs.Events.{Event, Hears, Says, Reads, Opens, AreUnstopped, heard_lines, opened, readings, written}
use Rattle.watching.specs.Looks.{Moved, held}
use Rattle.session_model.specs.CecpSession.{Concludes, Posts, Thinks, bound_from, gives_up_by, is_moveless, task_of}
use Rattle.session_model.specs.CecpState.{State, played}
use Rattle.session_model.specs.Thinking.{Interrupted, Deepens, Ending, Whole, InSearch, InSolve, Report, last_best, reported}
use Rattle.session_model.proofs.Wider.{deepens_wider}
use Rattle.thinking.specs.Cuts.{IsEndedBy, cause_of}
use Rattle.session_model.specs.Lines.{Follows, Held, IsNext, MayFollow, none, one}
use Rattle.session_model.specs.Turned.{turn_of}
use Rattle.cecp_front.specs.Thought.{BrokeSeeking, Sought, Thought, Unthought, is_dropped, move_text}

-- ---- events of a search

pub unstopped_shut : (events : List Event) → AreUnstopped Cecp events → opened events ≡ []
unstopped_shut [] h = refl
unstopped_shut (Hears line ∷ events) h = unstopped_shut events h.1
unstopped_shut (Says text ∷ events) h = unstopped_shut events h.1
unstopped_shut (Reads reading ∷ events) h = unstopped_shut events h.1
unstopped_shut (Opens read ∷ events) h = absurd h.0

shut_then : (events : List Event) (text : List ℕ) → AreUnstopped Cecp events → opened (events ++ Says text ∷ []) ≡ []
shut_then [] text h = refl
shut_then (Hears line ∷ events) text h = shut_then events text h.1
shut_then (Says said ∷ events) text h = shut_then events text h.1
shut_then (Reads reading ∷ events) text h = shut_then events text h.1
shut_then (Opens read ∷ events) text h = absurd h.0

heard_then : (events : List Event) (text : List ℕ) → heard_lines (events ++ Says text ∷ []) ≡ heard_lines events
heard_then events text = heard_lines-append events (Says text ∷ []) ∙ append-nil (heard_lines events)

read_then : (events : List Event) (text : List ℕ) → readings (events ++ Says text ∷ []) ≡ readings events
read_then events text = readings-append events (Says text ∷ []) ∙ append-nil (readings events)

wrote_then : (events : List Event) (text : List ℕ) → written Cecp (events ++ Says text ∷ []) ≡ written Cecp events ++ text
wrote_then events text = written-append Cecp events (Says text ∷ []) ∙ ap (λ t. written Cecp events ++ t) (append-nil text)

-- ---- what follows

held_one : (why : Option Cut) (text : List ℕ) → Held (held why text)
held_one None text = none
held_one (Some cut.Line) text = one (Text text)
held_one (Some cut.End) text = none
held_one (Some (cut.Quota quota)) text = none
held_one (Some (cut.Deadline reading)) text = none

-- the line that is held comes first
pub follows_held : (why : Option Cut) (text : List ℕ) (rest : List Line) → (why ≡ Some cut.End → rest ≡ []) → Follows why text (held why text ++ rest)
follows_held None text rest end = tt
follows_held (Some cut.Line) text rest end = (rest, refl)
follows_held (Some cut.End) text rest end = end refl
follows_held (Some (cut.Quota quota)) text rest end = tt
follows_held (Some (cut.Deadline reading)) text rest end = tt

-- so it does where it is the next one
follows_next : (why : Option Cut) (left left' : Option (List ℕ)) (text text' : List ℕ) (next : Got) → IsNext why left left' text next text'
    → (following : List Line) → MayFollow next following → Follows why text (got_lines next text' ++ following)
follows_next why left left' text text' next n following may =
    subst (Follows why text) (sym (append_assoc (held why text) n.lines following) ∙ ap (λ l. l ++ following) n.lines_are)
    (follows_held why text (n.lines ++ following) (λ e. n.ended e following may))

-- no move is made exactly where the line that cut the search gives it up
moveless_by : (why : Cut) (text : List ℕ) (following : List Line) → Follows (Some why) text following
    → gives_up_by (cause_of why) following ≡ is_dropped (Some why) text
moveless_by cut.Line text following (rest, is) = ap (gives_up_by Interrupted) is
moveless_by cut.End text following is = ap (gives_up_by Interrupted) is
moveless_by (cut.Quota quota) text following h = refl
moveless_by (cut.Deadline reading) text following h = refl

pub moveless : (why : Option Cut) (ending : Ending) (text : List ℕ) (following : List Line) → IsEndedBy why ending
    → Follows why text following → is_moveless ending following ≡ is_dropped why text
moveless None Whole text following is follows = refl
moveless None (InSearch cause) text following is follows = absurd is
moveless None (InSolve report n cause) text following is follows = absurd is
moveless (Some why) Whole text following is follows = absurd is
moveless (Some why) (InSearch cause) text following is follows =
    ap (λ c. gives_up_by c following) is ∙ moveless_by why text following follows
moveless (Some why) (InSolve report n cause) text following is follows =
    ap (λ c. gives_up_by c following) is ∙ moveless_by why text following follows

-- ---- how it concludes

-- the events after those of a search, and the state that they leave
abbrev pub closing : Bool → State → Move → List Event
closing true state best = []
closing false state best = Says (move_text state best) ∷ []

abbrev pub closed : Bool → State → Move → State
closed true state best = state
closed false state best = (played state best).state

concludes : (moveless : Bool) (line : Line) (answered events : List Event) (state : State) (best : Move)
    → Concludes moveless (turn_of line (answered ++ (events ++ closing moveless state best)) (closed moveless state best))
    (answered ++ events) state best
unfolding turn_of
concludes true line answered events state best = (ap (λ es. answered ++ es) (append-nil events), refl)
concludes false line answered events state best = (sym (append_assoc answered events (Says (move_text state best) ∷ [])), refl)

-- depths, their lines, and how they conclude, are a thinking
pub thinks_at : (A : Type 0) (state : State) (first best : Move) (reports : List Report) (ending : Ending) (answered events : List Event)
    (line : Line) (following : List Line) (b : Bool) → is_moveless ending following ≡ b → best ≡ last_best first (reported reports ending)
    → AreUnstopped Cecp events → Posts state.posts events (reported reports ending)
    → Deepens Cecp A (task_of state) reports ending (readings events) following
    → Thinks A state first answered (turn_of line (answered ++ (events ++ closing b state best)) (closed b state best)) following
thinks_at A state first best reports ending answered events line following b is best_is unstopped posts deepens = record {
  before = events;
  reports = reports;
  ending = ending;
  unstopped = unstopped;
  deepens = deepens;
  posts = posts;
  concludes =
      subst (λ (m : Bool). Concludes m (turn_of line (answered ++ (events ++ closing b state best)) (closed b state best)) (answered ++ events) state (last_best first (reported reports ending))) (sym is)
      (subst (λ (m : Move). Concludes b (turn_of line (answered ++ (events ++ closing b state best)) (closed b state best)) (answered ++ events) state m) best_is
      (concludes b line answered events state best));
}

-- what is heard, opened and read by how it concludes
heard_closing : (b : Bool) (state : State) (best : Move) (events : List Event) → heard_lines (events ++ closing b state best) ≡ heard_lines events
heard_closing true state best events = ap heard_lines (append-nil events)
heard_closing false state best events = heard_then events (move_text state best)

read_closing : (b : Bool) (state : State) (best : Move) (events : List Event) → readings (events ++ closing b state best) ≡ readings events
read_closing true state best events = ap readings (append-nil events)
read_closing false state best events = read_then events (move_text state best)

shut_closing : (b : Bool) (state : State) (best : Move) (events : List Event) → AreUnstopped Cecp events → opened (events ++ closing b state best) ≡ []
shut_closing true state best events h = ap opened (append-nil events) ∙ unstopped_shut events h
shut_closing false state best events h = shut_then events (move_text state best) h

-- a fault came in the search
pub unthought_seeking : {moved : Moved} (state : State) (first : Move) → BrokeSeeking moved state → Unthought moved state first
unthought_seeking {moved = moved} state first s =
    let best = last_best first (reported s.reports s.ending) in
    let b = is_moveless s.ending s.behind in
    record {
      events = s.events ++ closing b state best;
      after = closed b state best;
      behind = s.behind;
      is_held = s.is_held;
      front = s.front;
      back = s.back ++ written Cecp (closing b state best);
      wrote = written-append Cecp s.events (closing b state best) ∙ ap (λ t. t ++ written Cecp (closing b state best)) s.wrote
          ∙ append_assoc s.front s.back (written Cecp (closing b state best));
      went = subst (λ (r : List ℕ). moved (heard_lines (s.events ++ closing b state best) ++ s.behind) s.front r) (sym (read_closing b state best s.events))
          (subst (λ (l : List Line). moved (l ++ s.behind) s.front (readings s.events)) (sym (heard_closing b state best s.events)) s.went);
      unopened = shut_closing b state best s.events s.unstopped;
      thinks = λ answered line.
          thinks_at ⊤ state first best s.reports s.ending answered s.events line s.behind b refl refl s.unstopped s.posts s.deepens;
    }

module _ {S K C : Type 0} {left : S → Option (List ℕ)} {taken : K → Option (List ℕ)} {given : C → Option (List ℕ)} {count last : C → ℕ} where
  -- the search was given up, and the next line is there
  pub thought_dropped : {s s' s'' : S} {k k' : K} {c c' : C} {o o' : Owed} (state : State) (first best : Move) (text text' : List ℕ)
      (why : Option Cut) (next : Got) → Sought (Moves left taken given count last s s' k k' c c') o o' state first best text why
      → is_dropped why text ≡ true → IsNext why (left s') (left s'') text next text'
      → Thought (Moves left taken given count last s s'' k k' c c') o o' state state first next text'
  thought_dropped {s' = s'} {k' = k'} {c' = c'} {o = o} state first best text text' why next s dropped n = record {
    events = s.events ++ [];
    went = moves_at (moves_more s.went (moves_source k' c' n.takes))
        (append_assoc (heard_lines s.events) (held why text) n.lines ∙ ap (λ l. heard_lines s.events ++ l) n.lines_are
        ∙ ap (λ l. l ++ got_lines next text') (sym (heard_closing true state best s.events)))
        (append-nil (written Cecp s.events) ∙ ap (written Cecp) (sym (append-nil s.events)))
        (append-nil (readings s.events) ∙ sym (read_closing true state best s.events));
    unopened = shut_closing true state best s.events s.unstopped;
    thinks = λ answered line following may.
        let follows = follows_next why (left s') _ text text' next n following may in
        thinks_at (Lacks o (bound_from true state)) state first best s.reports s.ending answered s.events line _ true
        (moveless why s.ending text _ s.ended follows ∙ dropped) s.best_is s.unstopped s.posts (s.deepens _ follows);
    spends = s.spends;
  }

  -- the move was made, and the next line is there
  pub thought_moved : {s s' s'' : S} {k k' k'' : K} {c c' : C} {o o' : Owed} (state : State) (first best : Move) (text text' : List ℕ)
      (why : Option Cut) (next : Got) → Sought (Moves left taken given count last s s' k k' c c') o o' state first best text why
      → is_dropped why text ≡ false → Appends (taken k') (taken k'') (move_text state best)
      → IsNext why (left s') (left s'') text next text'
      → Thought (Moves left taken given count last s s'' k k'' c c') o o' state (played state best).state first next text'
  thought_moved {s' = s'} {k'' = k''} {c' = c'} {o = o} state first best text text' why next s kept wrote n = record {
    events = s.events ++ closing false state best;
    went = moves_at (moves_more (moves_more s.went (moves_sink s' c' wrote)) (moves_source k'' c' n.takes))
        (ap (λ l. l ++ n.lines) (append-nil (heard_lines s.events ++ held why text))
        ∙ append_assoc (heard_lines s.events) (held why text) n.lines ∙ ap (λ l. heard_lines s.events ++ l) n.lines_are
        ∙ ap (λ l. l ++ got_lines next text') (sym (heard_closing false state best s.events)))
        (append-nil (written Cecp s.events ++ move_text state best) ∙ sym (wrote_then s.events (move_text state best)))
        (append-nil (readings s.events ++ []) ∙ append-nil (readings s.events) ∙ sym (read_closing false state best s.events));
    unopened = shut_closing false state best s.events s.unstopped;
    thinks = λ answered line following may.
        let follows = follows_next why (left s') _ text text' next n following may in
        thinks_at (Lacks o (bound_from true state)) state first best s.reports s.ending answered s.events line _ false
        (moveless why s.ending text _ s.ended follows ∙ kept) s.best_is s.unstopped s.posts (s.deepens _ follows);
    spends = s.spends;
  }

  -- the move was written in part
  pub unthought_moving : {s s' : S} {k k' k'' : K} {c c' : C} {o o' : Owed} (state : State) (first best : Move) (text : List ℕ)
      (why : Option Cut) → Sought (Moves left taken given count last s s' k k' c c') o o' state first best text why
      → is_dropped why text ≡ false → AppendsFront (taken k') (taken k'') (move_text state best)
      → Unthought (Moves left taken given count last s s' k k'' c c') state first
  unthought_moving {s' = s'} {c' = c'} {o = o} state first best text why s kept wrote =
      let follows = subst (Follows why text) (append-nil (held why text)) (follows_held why text [] (λ e. refl)) in
      record {
        events = s.events ++ closing false state best;
        after = (played state best).state;
        behind = held why text;
        is_held = held_one why text;
        front = written Cecp s.events ++ wrote.front;
        back = wrote.back;
        wrote = wrote_then s.events (move_text state best) ∙ ap (λ t. written Cecp s.events ++ t) wrote.whole
            ∙ sym (append_assoc (written Cecp s.events) wrote.front wrote.back);
        went = moves_at (moves_more s.went (moves_sink s' c' wrote.took))
            (append-nil (heard_lines s.events ++ held why text) ∙ ap (λ l. l ++ held why text) (sym (heard_closing false state best s.events)))
            refl (append-nil (readings s.events) ∙ sym (read_closing false state best s.events));
        unopened = shut_closing false state best s.events s.unstopped;
        thinks = λ answered line.
            thinks_at ⊤ state first best s.reports s.ending answered s.events line (held why text) false
            (moveless why s.ending text (held why text) s.ended follows ∙ kept) s.best_is s.unstopped s.posts
            (deepens_wider (Lacks o (bound_from true state)) ⊤ (λ h. tt) Cecp (task_of state) s.reports s.ending (readings s.events) (held why text) (s.deepens (held why text) follows));
      }

-- ---- the same, as the code comes to it: with the session as it is now, which a search leaves as it was

module _ {S K C : Type 0} {left : S → Option (List ℕ)} {taken : K → Option (List ℕ)} {given : C → Option (List ℕ)} {count last : C → ℕ}
    {s s' : S} {k k' : K} {c c' : C} {o o' : Owed} (state now : State) (same : now ≡ state) (first best : Move) (text : List ℕ)
    (why : Option Cut) (sought : Sought (Moves left taken given count last s s' k k' c c') o o' state first best text why)
    (dropped : Bool) (is : dropped ≡ is_dropped why text) where
  pub think_dropped : {s'' : S} (o'' : Owed) (next : Got) (text' : List ℕ) → dropped ≡ true → o'' ≡ o'
      → IsNext why (left s') (left s'') text next text'
      → Thought (Moves left taken given count last s s'' k k' c c') o o'' state now first next text'
  think_dropped {s'' = s''} o'' next text' gone spent n =
      subst (λ (x : Owed). Thought (Moves left taken given count last s s'' k k' c c') o x state now first next text') (sym spent)
      (subst (λ (x : State). Thought (Moves left taken given count last s s'' k k' c c') o o' state x first next text') (sym same)
      (thought_dropped state first best text text' why next sought (sym is ∙ gone) n))

  pub think_moved : {s'' : S} {k'' : K} (after : State) (o'' : Owed) (next : Got) (text' : List ℕ) → dropped ≡ false
      → after ≡ (played now best).state → Appends (taken k') (taken k'') (move_text now best) → o'' ≡ o'
      → IsNext why (left s') (left s'') text next text'
      → Thought (Moves left taken given count last s s'' k k'' c c') o o'' state after first next text'
  think_moved {s'' = s''} {k'' = k''} after o'' next text' kept made wrote spent n =
      subst (λ (x : Owed). Thought (Moves left taken given count last s s'' k k'' c c') o x state after first next text') (sym spent)
      (subst (λ (x : State). Thought (Moves left taken given count last s s'' k k'' c c') o o' state x first next text')
      (sym (made ∙ ap (λ x. (played x best).state) same))
      (thought_moved state first best text text' why next sought (sym is ∙ kept)
      (subst (λ (x : State). Appends (taken k') (taken k'') (move_text x best)) same wrote) n))

  pub think_broke : {k'' : K} → dropped ≡ false → AppendsFront (taken k') (taken k'') (move_text now best)
      → Unthought (Moves left taken given count last s s' k k'' c c') state first
  think_broke {k'' = k''} kept wrote =
      unthought_moving state first best text why sought (sym is ∙ kept)
      (subst (λ (x : State). AppendsFront (taken k') (taken k'') (move_text x best)) same wrote)
