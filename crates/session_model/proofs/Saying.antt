-- What is said and heard while a line is answered, and the turn that comes of it.
use Rattle.std.proofs.Common.{◌≡◌, ℕ, List, [], ◌∷◌, ◌++◌, Bool, true, false, Some, None, refl, ap, sym, subst, ◌∙◌, append_assoc}
use Rattle.std.specs.Prelude.{⊤}
use Rattle.std.specs.declared.option.Option.{Option}
use Rattle.std.specs.Io.KnownBytes.{Appends}
use Rattle.std.proofs.lemmas.List.{append-nil}
use Rattle.io_ports.specs.Files.{Contents, Read}
use Rattle.io_ports.specs.Heard.{stops}
use Rattle.io_ports.specs.Lines.{Line, Text}
use Rattle.io_ports.specs.Owing.{Lacks, Spends}
use Rattle.io_ports.specs.Sink.{AppendsFront}
use Rattle.io_ports.specs.Source.{Owed, Takes, got_lines}
use Rattle.io_ports.specs.Trace.{Moves}
use Rattle.io_ports.specs.declared.dialect.Dialect.{Dialect}
use Rattle.io_ports.specs.declared.limits.SearchFault.{SearchFault}
use Rattle.io_ports.specs.declared.source.Got.{Got}
use Rattle.io_ports.proofs.Moved.{appends_none, moves_at, moves_more, moves_sink, moves_source}
use Rattle.io_ports.proofs.Owing.{spends_none}
use Rattle.watching.specs.declared.halt.Cut.{Cut}
use Rattle.watching.specs.declared.halt.Cut.TheVariants as cut
use Rattle.watching.specs.Events.{Event, Listens, Says, heard_lines, opened, readings, written}
use Rattle.watching.specs.EventLaws.{heard_lines-append, readings-append, written-append}
use Rattle.watching.specs.Looks.{Broke, Moved, Ran, held}
use Rattle.session_model.specs.Events.{IsStopped}
use Rattle.session_model.specs.Turns.{Protocol}
use Rattle.session_model.specs.Lines.{Exchanges, Follows, HeardPart, Held, IsNext, MayFollow, WaitedIfHeld, WaitedIfMust, StopsBy, is_interrupted, must_wait, none, one}
use Rattle.session_model.specs.Turned.{Further, RanPart, Served, Unserved, turn_of}

-- ---- the line that comes next

pub held_cut : (why : Option Cut) (text : List ℕ) → Held (held why text)
held_cut None text = none
held_cut (Some cut.Line) text = one (Text text)
held_cut (Some cut.End) text = none
held_cut (Some (cut.Quota quota)) text = none
held_cut (Some (cut.Deadline reading)) text = none

-- the next line, and all that may follow it, follow what cut a search
pub next_follows : (why : Option Cut) (left left' : Option (List ℕ)) (text : List ℕ) (next : Got) (text' : List ℕ) (following : List Line)
    → IsNext why left left' text next text' → MayFollow next following → Follows why text (got_lines next text' ++ following)
next_follows None left left' text next text' following is may = tt
next_follows (Some cut.Line) left left' text next text' following is may =
    (is.lines ++ following, ap (λ l. l ++ following) (sym is.lines_are))
next_follows (Some cut.End) left left' text next text' following is may =
    ap (λ l. l ++ following) (sym is.lines_are) ∙ is.ended refl following may
next_follows (Some (cut.Quota quota)) left left' text next text' following is may = tt
next_follows (Some (cut.Deadline reading)) left left' text next text' following is may = tt

-- where no line is held, the next one is taken
pub next_taken : {why : Option Cut} {left left' : Option (List ℕ)} {text : List ℕ} {next : Got} {text' : List ℕ} → held why text ≡ []
    → IsNext why left left' text next text' → Takes left left' (got_lines next text')
next_taken {left = left} {left' = left'} unheld is =
    subst (λ (l : List Line). Takes left left' l) (ap (λ l. l ++ is.lines) (sym unheld) ∙ is.lines_are) is.takes

-- the lines that follow a wait begin with one that stops a search, or are none
pub waited_stops : (dialect : Dialect) (why : Cut) (text : List ℕ) (following : List Line) → StopsBy dialect text why
    → Follows (Some why) text following → IsStopped dialect following
waited_stops dialect cut.Line text following stopped follows =
    subst (λ (l : List Line). IsStopped dialect l) (sym follows.1) stopped
waited_stops dialect cut.End text following stopped follows =
    subst (λ (l : List Line). IsStopped dialect l) (sym follows) tt
waited_stops dialect (cut.Quota quota) text following stopped follows = absurd stopped
waited_stops dialect (cut.Deadline reading) text following stopped follows = absurd stopped

-- ---- what is said

module _ {S K C : Type 0} {left : S → Option (List ℕ)} {taken : K → Option (List ℕ)} {given : C → Option (List ℕ)} {count last : C → ℕ} (dialect : Dialect) where
  -- a text was said then
  pub ran_say : {s s' : S} {k k' k'' : K} {c c' : C} {behind : List Line} {P : List Event → Type 0} (R : List Event → Type 0) (text : List ℕ)
      → ((a : List Event) → P a → R (a ++ Says text ∷ []))
      → Ran dialect (Moves left taken given count last s s' k k' c c') behind P → Appends (taken k') (taken k'') text
      → Ran dialect (Moves left taken given count last s s' k k'' c c') behind R
  ran_say {s' = s'} {c' = c'} {behind = behind} R text f a app = record {
    events = a.events ++ Says text ∷ [];
    went = moves_at (moves_more a.went (moves_sink s' c' app))
        (append-nil (heard_lines a.events ++ behind) ∙ ap (λ l. l ++ behind) (sym (heard_lines-append a.events (Says text ∷ []) ∙ append-nil (heard_lines a.events))))
        (ap (λ l. written dialect a.events ++ l) (sym (append-nil text)) ∙ sym (written-append dialect a.events (Says text ∷ [])))
        (sym (readings-append a.events (Says text ∷ [])));
    holds = f a.events a.holds;
  }

  -- or a front part of it
  pub broke_say : {s s' : S} {k k' k'' : K} {c c' : C} {behind : List Line} {P : List Event → Type 0} (R : List Event → Type 0) (text : List ℕ)
      → ((a : List Event) → P a → R (a ++ Says text ∷ []))
      → Ran dialect (Moves left taken given count last s s' k k' c c') behind P → AppendsFront (taken k') (taken k'') text
      → RanPart dialect (Moves left taken given count last s s' k k'' c c') behind R
  broke_say {s' = s'} {c' = c'} {behind = behind} R text f a app = record {
    events = a.events ++ Says text ∷ [];
    front = written dialect a.events ++ app.front;
    back = app.back;
    wrote = written-append dialect a.events (Says text ∷ []) ∙ ap (λ l. written dialect a.events ++ l) (append-nil text ∙ app.whole)
        ∙ sym (append_assoc (written dialect a.events) app.front app.back);
    went = moves_at (moves_more a.went (moves_sink s' c' app.took))
        (append-nil (heard_lines a.events ++ behind) ∙ ap (λ l. l ++ behind) (sym (heard_lines-append a.events (Says text ∷ []) ∙ append-nil (heard_lines a.events))))
        refl (sym (readings-append a.events (Says text ∷ [])));
    holds = f a.events a.holds;
  }

  -- or nothing of it, where there is no memory
  pub unsaid : {s s' : S} {k k' : K} {c c' : C} {behind : List Line} {P : List Event → Type 0} (R : List Event → Type 0) (text : List ℕ)
      → ((a : List Event) → P a → R (a ++ Says text ∷ []))
      → Ran dialect (Moves left taken given count last s s' k k' c c') behind P
      → RanPart dialect (Moves left taken given count last s s' k k' c c') behind R
  unsaid {k' = k'} R text f a = broke_say R text f a (record { front = []; back = text; whole = refl; took = appends_none (taken k') })

  -- lines were taken then, which come after
  pub ran_next : {s s' s'' : S} {k k' : K} {c c' : C} {behind behind' : List Line} {P : List Event → Type 0} (lines : List Line)
      → Ran dialect (Moves left taken given count last s s' k k' c c') behind P → Takes (left s') (left s'') lines → behind ++ lines ≡ behind'
      → Ran dialect (Moves left taken given count last s s'' k k' c c') behind' P
  ran_next {k' = k'} {c' = c'} {behind = behind} lines a takes is = record {
    events = a.events;
    went = moves_at (moves_more a.went (moves_source k' c' takes))
        (append_assoc (heard_lines a.events) behind lines ∙ ap (λ l. heard_lines a.events ++ l) is)
        (append-nil (written dialect a.events)) (append-nil (readings a.events));
    holds = a.holds;
  }

  -- the next line was taken then
  pub ran_next_of : {s s' s'' : S} {k k' : K} {c c' : C} {P : List Event → Type 0} (why : Option Cut) (text : List ℕ) {next : Got} {text' : List ℕ}
      → Ran dialect (Moves left taken given count last s s' k k' c c') (held why text) P → IsNext why (left s') (left s'') text next text'
      → Ran dialect (Moves left taken given count last s s'' k k' c c') (got_lines next text') P
  ran_next_of why text a is = ran_next is.lines a is.takes is.lines_are

  -- ---- lines that are heard without a reading of the clock

  pub moves_exchanges : {s s' : S} {k k' : K} (c : C) {lines : List Line} {output read : List ℕ}
      → Exchanges left taken s s' k k' lines output read → Moves left taken given count last s s' k k' c c lines output read
  moves_exchanges {s' = s'} {k = k} c {lines = lines} x =
      moves_at (moves_more (moves_source k c x.took) (moves_sink s' c x.wrote)) (append-nil lines) refl (sym x.unread)

  pub ran_heard : {s s' : S} {k k' : K} (c : C) {behind : List Line} {P : List Event → Type 0}
      → Ran dialect (Exchanges left taken s s' k k') behind P → Ran dialect (Moves left taken given count last s s' k k' c c) behind P
  ran_heard c a = record { events = a.events; went = moves_exchanges c a.went; holds = a.holds }

  -- ---- parts

  -- a part with no line after it
  pub part_of_broke : {s s' : S} {k k' : K} {c c' : C} {P : List Event → Type 0}
      → Broke dialect (Moves left taken given count last s s' k k' c c') P
      → RanPart dialect (Moves left taken given count last s s' k k' c c') [] P
  part_of_broke b = record {
    events = b.events;
    front = b.front;
    back = b.back;
    wrote = b.wrote;
    went = moves_at b.went (sym (append-nil (heard_lines b.events))) refl refl;
    holds = b.holds;
  }

  -- one thing went on, and another in part
  pub part_more : {s s' s'' : S} {k k' k'' : K} {c c' c'' : C} {behind : List Line} {P Q : List Event → Type 0} (R : List Event → Type 0)
      → ((a b : List Event) → P a → Q b → R (a ++ b))
      → Ran dialect (Moves left taken given count last s s' k k' c c') [] P
      → RanPart dialect (Moves left taken given count last s' s'' k' k'' c' c'') behind Q
      → RanPart dialect (Moves left taken given count last s s'' k k'' c c'') behind R
  part_more {behind = behind} R f a b = record {
    events = a.events ++ b.events;
    front = written dialect a.events ++ b.front;
    back = b.back;
    wrote = written-append dialect a.events b.events ∙ ap (λ l. written dialect a.events ++ l) b.wrote
        ∙ sym (append_assoc (written dialect a.events) b.front b.back);
    went = moves_at (moves_more a.went b.went)
        (ap (λ l. l ++ (heard_lines b.events ++ behind)) (append-nil (heard_lines a.events)) ∙ sym (append_assoc (heard_lines a.events) (heard_lines b.events) behind)
        ∙ ap (λ l. l ++ behind) (sym (heard_lines-append a.events b.events)))
        refl (sym (readings-append a.events b.events));
    holds = f a.events b.events a.holds b.holds;
  }

  -- what is still to be said is said in the part that was not written
  pub part_then : {s s' : S} {k k' : K} {c c' : C} {behind : List Line} {P : List Event → Type 0} (R : List Event → Type 0) (text : List ℕ)
      → ((a : List Event) → P a → R (a ++ Says text ∷ []))
      → RanPart dialect (Moves left taken given count last s s' k k' c c') behind P
      → RanPart dialect (Moves left taken given count last s s' k k' c c') behind R
  part_then {behind = behind} R text f a = record {
    events = a.events ++ Says text ∷ [];
    front = a.front;
    back = a.back ++ text;
    wrote = written-append dialect a.events (Says text ∷ []) ∙ ap (λ l. l ++ (text ++ [])) a.wrote
        ∙ ap (λ l. (a.front ++ a.back) ++ l) (append-nil text) ∙ append_assoc a.front a.back text;
    went = moves_at a.went (ap (λ l. l ++ behind) (sym (heard_lines-append a.events (Says text ∷ []) ∙ append-nil (heard_lines a.events))))
        refl (sym (readings-append a.events (Says text ∷ []) ∙ append-nil (readings a.events)));
    holds = f a.events a.holds;
  }

-- ---- a best move that is held back

-- what must wait holds no line
pub waits_unheld : (holds : Bool) (why : Option Cut) (text : List ℕ) → must_wait holds why ≡ true → held why text ≡ []
waits_unheld false why text e = absurd (cc)
waits_unheld true None text e = refl
waits_unheld true (Some cut.Line) text e = absurd (cc)
waits_unheld true (Some cut.End) text e = absurd (cc)
waits_unheld true (Some (cut.Quota quota)) text e = refl
waits_unheld true (Some (cut.Deadline reading)) text e = refl

-- what is held back and does not wait was cut by a line or the end
held_interrupted : (why : Option Cut) → must_wait true why ≡ false → is_interrupted why ≡ true
held_interrupted None e = absurd (cc)
held_interrupted (Some cut.Line) e = refl
held_interrupted (Some cut.End) e = refl
held_interrupted (Some (cut.Quota quota)) e = absurd (cc)
held_interrupted (Some (cut.Deadline reading)) e = absurd (cc)

interrupted_stops : (dialect : Dialect) (why : Option Cut) (text : List ℕ) (following : List Line) → is_interrupted why ≡ true
    → (why ≡ Some cut.Line → stops dialect (Text text) ≡ true) → Follows why text following → IsStopped dialect following
interrupted_stops dialect None text following e stopped follows = absurd (cc)
interrupted_stops dialect (Some cut.Line) text following e stopped follows = waited_stops dialect cut.Line text following (stopped refl) follows
interrupted_stops dialect (Some cut.End) text following e stopped follows = waited_stops dialect cut.End text following tt follows
interrupted_stops dialect (Some (cut.Quota quota)) text following e stopped follows = absurd (cc)
interrupted_stops dialect (Some (cut.Deadline reading)) text following e stopped follows = absurd (cc)

-- the lines that follow a best move that was held back begin with one that stops a search, or are none
pub settled_stops : (dialect : Dialect) (moved : Moved) (why : Option Cut) (text : List ℕ) (why' : Option Cut) (text' : List ℕ) (following : List Line)
    → WaitedIfHeld dialect moved true text why text' why' → (why ≡ Some cut.Line → stops dialect (Text text) ≡ true)
    → Follows why' text' following → IsStopped dialect following
settled_stops dialect moved why text why' text' following settled stopped follows = by_wait (must_wait true why) refl why' settled follows
  where
    by_wait : (b : Bool) → must_wait true why ≡ b → (why' : Option Cut) → WaitedIfMust b dialect moved text why text' why'
        → Follows why' text' following → IsStopped dialect following
    by_wait true e None s f = absurd s
    by_wait true e (Some cut) s f = waited_stops dialect cut text' following s.stopped f
    by_wait false e why' s f =
        interrupted_stops dialect why text following (held_interrupted why e) stopped
        (subst (λ (t : List ℕ). Follows why t following) s.1 (subst (λ (w : Option Cut). Follows w text' following) s.2 f))

module _ {S K C : Type 0} {left : S → Option (List ℕ)} {taken : K → Option (List ℕ)} {given : C → Option (List ℕ)} {count last : C → ℕ} (dialect : Dialect)
    {s s' s'' : S} {k k' k'' : K} {c c' : C} {P : List Event → Type 0} (R : List Event → Type 0)
    (f : (a b : List Event) → P a → Listens dialect b → R (a ++ b)) (holds : Bool) (why : Option Cut) (text : List ℕ)
    (a : Ran dialect (Moves left taken given count last s s' k k' c c') (held why text) P) where
  -- a search, and then a wait for its best move to be told, if any
  pub ran_settled : (text' : List ℕ) (why' : Option Cut) → WaitedIfHeld dialect (Exchanges left taken s' s'' k' k'') holds text why text' why'
      → Ran dialect (Moves left taken given count last s s'' k k'' c c') (held why' text') R
  ran_settled text' why' settled = by_wait (must_wait holds why) refl why' settled
    where
      by_wait : (b : Bool) → must_wait holds why ≡ b → (why' : Option Cut) → WaitedIfMust b dialect (Exchanges left taken s' s'' k' k'') text why text' why'
          → Ran dialect (Moves left taken given count last s s'' k k'' c c') (held why' text') R
      by_wait true e None w = absurd w
      by_wait true e (Some cut) w =
          let unheld = waits_unheld holds why text e in let b = w.ran in
          let heard : Moves left taken given count last s' s'' k' k'' c' c' (heard_lines b.events ++ held (Some cut) text') (written dialect b.events) (readings b.events) =
          moves_exchanges dialect c' b.went in
          record {
            events = a.events ++ b.events;
            went = moves_at (moves_more a.went heard)
                (ap (λ l. (heard_lines a.events ++ l) ++ (heard_lines b.events ++ held (Some cut) text')) unheld
                ∙ ap (λ l. l ++ (heard_lines b.events ++ held (Some cut) text')) (append-nil (heard_lines a.events))
                ∙ sym (append_assoc (heard_lines a.events) (heard_lines b.events) (held (Some cut) text'))
                ∙ ap (λ l. l ++ held (Some cut) text') (sym (heard_lines-append a.events b.events)))
                (sym (written-append dialect a.events b.events)) (sym (readings-append a.events b.events));
            holds = f a.events b.events a.holds b.holds;
          }
      by_wait false e why' w =
          let same : held why text ≡ held why' text' =
          ap (λ (t : List ℕ). held why t) (sym w.1) ∙ ap (λ (y : Option Cut). held y text') (sym w.2) in
          let still : Moves left taken given count last s' s'' k' k'' c' c' [] [] [] = moves_exchanges dialect c' w.0 in
          record {
            events = a.events ++ [];
            went = moves_at (moves_more a.went still)
                (append-nil (heard_lines a.events ++ held why text) ∙ ap (λ l. heard_lines a.events ++ l) same
                ∙ ap (λ l. l ++ held why' text') (sym (heard_lines-append a.events [] ∙ append-nil (heard_lines a.events))))
                (sym (written-append dialect a.events [])) (sym (readings-append a.events []));
            holds = f a.events [] a.holds tt;
          }

  -- or a fault ended the wait
  pub part_settled : (fault : SearchFault) → must_wait holds why ≡ true → HeardPart dialect (Exchanges left taken s' s'' k' k'') fault
      → RanPart dialect (Moves left taken given count last s s'' k k'' c c') [] R
  part_settled fault waits h =
      let b = h.broke in
      let part : RanPart dialect (Moves left taken given count last s' s'' k' k'' c' c') [] (Listens dialect) = record {
        events = b.events;
        front = b.front;
        back = b.back;
        wrote = b.wrote;
        went = moves_at (moves_exchanges dialect c' b.went) (sym (append-nil (heard_lines b.events))) refl refl;
        holds = b.holds;
      } in
      part_more dialect R f
      (record {
        events = a.events;
        went = moves_at a.went (ap (λ l. heard_lines a.events ++ l) (waits_unheld holds why text waits)) refl refl;
        holds = a.holds;
      }) part

-- ---- turns

spends_same : (owed owed' : Owed) (number : ℕ) → owed' ≡ owed → Spends owed owed' number
spends_same owed owed' number same = subst (λ (o : Owed). Spends owed o number) (sym same) (spends_none owed number)

module _ {State : Type 0} (p : Protocol State) where
  -- events answer a line whatever may interrupt a search, and whatever follows
  abbrev pub AnswersAlways : State → State → Line → List Event → Type 1
  AnswersAlways state after line events =
      (Interrupts : Type 0) (following : List Line) → p.answers Interrupts state (turn_of line events after) following

  -- what was gone through, as a turn
  pub served_ran : {moved : Moved} {owed owed' : Owed} {state after : State} {line : Line} {next : Got} {text : List ℕ} {P : List Event → Type 0}
      (asked : List Read → Type 0) → Ran p.dialect moved (got_lines next text) P
      → ((events : List Event) → P events → asked (opened events))
      → ((events : List Event) → P events → (following : List Line) → MayFollow next following
      → p.answers (Lacks owed (p.bound state line)) state (turn_of line events after) (got_lines next text ++ following))
      → Spends owed owed' (p.bound state line) → Served p moved asked owed owed' state after line next text
  served_ran asked a asks answers spends = record {
    events = a.events;
    went = a.went;
    asks = asks a.events a.holds;
    answers = answers a.events a.holds;
    spends = spends;
  }

  pub unserved_part : {moved : Moved} {contents : Option Contents} {state : State} {line : Line} {behind : List Line} {P : List Event → Type 0}
      (asked : List Read → Type 0) (after : State) → RanPart p.dialect moved behind P → Held behind → asked [] → ((events : List Event) → P events → opened events ≡ [])
      → ((events : List Event) → P events → p.answers ⊤ state (turn_of line events after) behind) → Further contents []
      → Unserved p moved asked contents state line
  unserved_part {behind = behind} asked after a is_held asks shut answers more = record {
    events = a.events;
    after = after;
    behind = behind;
    is_held = is_held;
    front = a.front;
    back = a.back;
    wrote = a.wrote;
    went = a.went;
    done = [];
    further = [];
    reads_are = shut a.events a.holds;
    asks = asks;
    more = more;
    answers = answers a.events a.holds;
  }

  module _ {S K C : Type 0} {left : S → Option (List ℕ)} {taken : K → Option (List ℕ)} {given : C → Option (List ℕ)} {count last : C → ℕ} where
    -- events without a line and without a reading, and then the next line
    pub served_plain : {s s' : S} {k k' : K} (c : C) (asked : List Read → Type 0) {owed owed' : Owed} {state after : State} {line : Line} {next : Got} {text : List ℕ}
        (events : List Event) → heard_lines events ≡ [] → readings events ≡ []
        → AnswersAlways state after line events → asked (opened events)
        → Appends (taken k) (taken k') (written p.dialect events) → Takes (left s) (left s') (got_lines next text) → owed' ≡ owed
        → Served p (Moves left taken given count last s s' k k' c c) asked owed owed' state after line next text
    served_plain {s = s} {s' = s'} {k = k} {k' = k'} c asked {owed = owed} {owed' = owed'} {state = state} {line = line} {next = next} {text = text} events unheard unread answers asks wrote takes same = record {
      events = events;
      went = moves_at (moves_more (moves_source k c takes) (moves_sink s' c wrote))
          (append-nil (got_lines next text) ∙ ap (λ l. l ++ got_lines next text) (sym unheard)) refl (sym unread);
      asks = asks;
      answers = λ following may. answers (Lacks owed (p.bound state line)) (got_lines next text ++ following);
      spends = spends_same owed owed' (p.bound state line) same;
    }

    -- nothing
    pub served_quiet : {s s' : S} (k : K) (c : C) (asked : List Read → Type 0) {owed owed' : Owed} {state after : State} {line : Line} {next : Got} {text : List ℕ}
        → AnswersAlways state after line [] → asked [] → Takes (left s) (left s') (got_lines next text) → owed' ≡ owed
        → Served p (Moves left taken given count last s s' k k c c) asked owed owed' state after line next text
    served_quiet k c asked answers asks takes same =
        served_plain c asked [] refl refl answers asks (appends_none (taken k)) takes same

    -- a text
    pub served_said : {s s' : S} {k k' : K} (c : C) (asked : List Read → Type 0) {owed owed' : Owed} {state after : State} {line : Line} {next : Got} {text : List ℕ}
        (said : List ℕ) → AnswersAlways state after line (Says said ∷ []) → asked []
        → Appends (taken k) (taken k') said → Takes (left s) (left s') (got_lines next text) → owed' ≡ owed
        → Served p (Moves left taken given count last s s' k k' c c) asked owed owed' state after line next text
    served_said {k = k} {k' = k'} c asked said answers asks wrote takes same =
        served_plain c asked (Says said ∷ []) refl refl answers asks
        (subst (λ (o : List ℕ). Appends (taken k) (taken k') o) (sym (append-nil said)) wrote) takes same

    -- a front part of what such events write
    pub unserved_plain : (s : S) {k k' : K} (c : C) (asked : List Read → Type 0) (contents : Option Contents) {state : State} (after : State) {line : Line}
        (events : List Event) (done further : List Read) → heard_lines events ≡ [] → readings events ≡ []
        → AnswersAlways state after line events → opened events ≡ done ++ further → asked done → Further contents further
        → AppendsFront (taken k) (taken k') (written p.dialect events)
        → Unserved p (Moves left taken given count last s s k k' c c) asked contents state line
    unserved_plain s c asked contents after events done further unheard unread answers reads_are asks more wrote = record {
      events = events;
      after = after;
      behind = [];
      is_held = none;
      front = wrote.front;
      back = wrote.back;
      wrote = wrote.whole;
      went = moves_at (moves_sink s c wrote.took) (ap (λ l. l ++ []) (sym unheard)) refl (sym unread);
      done = done;
      further = further;
      reads_are = reads_are;
      asks = asks;
      more = more;
      answers = answers ⊤ [];
    }

    -- a front part of a text
    pub unserved_said : (s : S) {k k' : K} (c : C) (asked : List Read → Type 0) (contents : Option Contents) {state : State} (after : State) {line : Line}
        (said : List ℕ) → AnswersAlways state after line (Says said ∷ []) → asked [] → Further contents []
        → AppendsFront (taken k) (taken k') said
        → Unserved p (Moves left taken given count last s s k k' c c) asked contents state line
    unserved_said s {k = k} {k' = k'} c asked contents after said answers asks more wrote =
        unserved_plain s c asked contents after (Says said ∷ []) [] [] refl refl answers refl asks more
        (subst (λ (o : List ℕ). AppendsFront (taken k) (taken k') o) (sym (append-nil said)) wrote)

    -- nothing of what these events write, where there is no memory
    pub unserved_none : (s : S) (k : K) (c : C) (asked : List Read → Type 0) (contents : Option Contents) {state : State} (after : State) {line : Line}
        (events : List Event) (done further : List Read) → heard_lines events ≡ [] → readings events ≡ []
        → AnswersAlways state after line events → opened events ≡ done ++ further → asked done → Further contents further
        → Unserved p (Moves left taken given count last s s k k c c) asked contents state line
    unserved_none s k c asked contents after events done further unheard unread answers reads_are asks more =
        unserved_plain s c asked contents after events done further unheard unread answers reads_are asks more
        (record { front = []; back = written p.dialect events; whole = refl; took = appends_none (taken k) })
