-- The answer to `go`.
use Rattle.std.proofs.Common.{◌≡◌, ◌∙◌, ℕ, List, [], ◌∷◌, ◌++◌, Bool, true, false, Option, Some, None, refl, sym, ap, subst}
use Rattle.std.proofs.lemmas.Grind.{flat_map-append}
use Rattle.std.proofs.lemmas.List.{append-nil}
use Rattle.std.specs.Io.KnownBytes.{Appends}
use Rattle.std.specs.Prelude.{Result, Ok, Err, IfOk, OnOk, OnErr}
use Rattle.std.specs.declared.option.Option.{Option as Maybe}
use Rattle.io_ports.specs.declared.dialect.Dialect.TheVariants.{Uci}
use Rattle.io_ports.specs.declared.source.Got.{Got}
use Rattle.io_ports.specs.Files.{Contents}
use Rattle.io_ports.specs.Heard.{stops}
use Rattle.io_ports.specs.Lines.{Line, Text}
use Rattle.io_ports.specs.Owing.{Lacks, Spends}
use Rattle.io_ports.specs.Sink.{AppendsFront}
use Rattle.io_ports.specs.Source.{Owed, Takes, got_lines}
use Rattle.io_ports.specs.Trace.{Moves}
use Rattle.rules_model.specs.declared.moves.Move.{Move}
use Rattle.game_play.specs.Played.{Played, legal_in}
use Rattle.watching.specs.declared.halt.Cut.{Cut}
use Rattle.watching.specs.declared.halt.Cut.TheVariants as cut
use Rattle.watching.specs.Events.{Event, Hears, Says, Reads, Opens, AreUnstopped, Listens, opened, opened_at}
use Rattle.watching.specs.Looks.{Moved, Ran}
use Rattle.session_model.proofs.Wider.{uci_is_wider}
use Rattle.session_model.specs.Events.{IsStopped}
use Rattle.session_model.specs.Mates.{mover}
use Rattle.session_model.specs.Turns.{Turn}
use Rattle.session_model.specs.UciGo.{Go, is_held}
use Rattle.session_model.specs.UciLines as UciLines
use Rattle.session_model.specs.UciLines.{Command, command_of}
use Rattle.session_model.specs.UciSession.{Answers, Goes, GoesBy, GoesNowhere, IsPlain, announced, bound_of, forgotten, go_bound, is_quit, uci}
use Rattle.session_model.specs.UciState.{State}
use Rattle.session_model.specs.UciTexts.{no_best_line, perft_line}
use Rattle.session_model.specs.Lines.{Follows, Held, MayFollow, WaitedIfHeld, WaitedIfMust, must_wait}
use Rattle.session_model.specs.Turned.{RanPart, Served, Unserved, turn_of}
use Rattle.session_model.proofs.Ending.{further_none}
use Rattle.session_model.proofs.Lawful.{uci_is_lawful}
use Rattle.session_model.proofs.Saying.{AnswersAlways, served_ran, served_said, settled_stops, unserved_part, unserved_said}
use Rattle.uci_front.specs.declared.plan.GoPlan.{GoPlan}
use Rattle.uci_front.specs.declared.searching.GoResult.{GoResult}
use Rattle.uci_front.specs.Searched.{BrokeGoing, Completes, Gone}
use Rattle.uci_front.specs.TextView.{last_line}
use Rattle.uci_front.specs.PlanView.{IsPlan, SaidAtOnce, SaidBy}
use Rattle.thinking.specs.Views.{announced_seen}
use Rattle.uci_front.proofs.Unanswered.{unserved_quiet}

-- ---- the line

-- an answer to the `go` of a line
pub as_go : (A : Type 0) (state after : State) (line : Line) (asked : Go) (events : List Event) (following : List Line)
    → command_of line ≡ UciLines.Go asked → Goes A state asked (turn_of line events after) following
    → uci.answers A state (turn_of line events after) following
unfolding turn_of
as_go A state after line asked events following is goes =
    subst (λ (c : Command). Answers A state (record { line = line; events = events; after = after }) following c) (sym is) goes

pub go_is : (state : State) (line : Line) (asked : Go) → command_of line ≡ UciLines.Go asked → uci.bound state line ≡ go_bound state asked
go_is state line asked is = ap (λ (c : Command). bound_of state c) is

-- ---- what is said at once

pub said_goes : (A : Type 0) (state : State) (plan : GoPlan) (asked : Go) (text : List ℕ) (turn : Turn State) (following : List Line)
    → IsPlan state asked plan → SaidAtOnce state.game plan (Some text) → turn.after ≡ forgotten state
    → turn.events ≡ Says text ∷ [] → Goes A state asked turn following
said_goes A state plan asked text turn following is said after events =
    by_plan plan.perft plan.legal plan.holds is.perft_is is.legal_is is.held_is said
  where
    just : (t : List ℕ) → ◌≡◌ {A = Option (List ℕ)} (Some text) (Some t) → IsPlain turn (forgotten state) (Says t ∷ [])
    just t h = let same : text ≡ t = cc in record { after_is = after; events_are = events ∙ ap (λ t. Says t ∷ []) same }

    by_plan : (perft : Option ℕ) (legal : List Move) (holds : Bool) → perft ≡ asked.perft → legal ≡ legal_in state.game
        → holds ≡ is_held asked (mover state.game) → SaidBy state.game perft legal holds (Some text)
        → Goes A state asked turn following
    by_plan (Some plies) legal holds perft_is legal_is held_is said =
        subst (λ perft. GoesBy perft asked.mate (legal_in state.game) A state asked turn following) perft_is (just (perft_line plies state.game) said)
    by_plan None [] true perft_is legal_is held_is said = cc
    by_plan None [] false perft_is legal_is held_is said =
        subst (λ perft. GoesBy perft asked.mate (legal_in state.game) A state asked turn following) perft_is
        (subst (λ legal. GoesBy None asked.mate legal A state asked turn following) legal_is
        (subst (λ holds. GoesNowhere holds state turn following) held_is (just no_best_line said)))
    by_plan None (m ∷ ms) holds perft_is legal_is held_is said = cc

-- ---- no file is read

pub unstopped_shut : (events : List Event) → AreUnstopped Uci events → opened events ≡ []
unstopped_shut [] h = refl
unstopped_shut (Hears line ∷ events) h = unstopped_shut events h.1
unstopped_shut (Says text ∷ events) h = unstopped_shut events h.1
unstopped_shut (Reads reading ∷ events) h = unstopped_shut events h.1
unstopped_shut (Opens read ∷ events) h = absurd h.0

listens_shut : (events : List Event) → Listens Uci events → opened events ≡ []
listens_shut [] h = refl
listens_shut (Hears line ∷ events) h = listens_shut events h.1
listens_shut (Says text ∷ events) h = absurd h.0
listens_shut (Reads reading ∷ events) h = listens_shut events h.1
listens_shut (Opens read ∷ events) h = absurd h.0

all_shut : (before heard : List Event) (text : List ℕ) → opened before ≡ [] → opened heard ≡ []
    → opened ((before ++ heard) ++ Says text ∷ []) ≡ []
all_shut before heard text first then =
    flat_map-append opened_at (before ++ heard) (Says text ∷ [])
    ∙ append-nil (opened (before ++ heard))
    ∙ flat_map-append opened_at before heard
    ∙ ap (λ reads. reads ++ opened heard) first ∙ then

-- ---- a search, lines that are heard, and its best move

module _ (owed : Owed) (state : State) (plan : GoPlan) (came : GoResult) (text : List ℕ) where
  -- lines are heard after a search
  pub record Heard (events : List Event) : Type 0 where
    pub before : List Event
    pub heard : List Event
    pub events_are : events ≡ before ++ heard
    pub gone : Gone owed state plan came text before
    pub listens : Listens Uci heard

  pub heard_then : (a b : List Event) → Gone owed state plan came text a → Listens Uci b → Heard (a ++ b)
  heard_then a b gone listens = record { before = a; heard = b; events_are = refl; gone = gone; listens = listens }

  -- and the best move is told
  pub record Told (events : List Event) : Type 0 where
    pub before : List Event
    pub heard : List Event
    pub events_are : events ≡ (before ++ heard) ++ Says (last_line came.best) ∷ []
    pub gone : Gone owed state plan came text before
    pub listens : Listens Uci heard

  pub told_then : (said : List ℕ) → said ≡ last_line came.best → (a : List Event) → Heard a → Told (a ++ Says said ∷ [])
  told_then said is a h = record {
    before = h.before;
    heard = h.heard;
    events_are = ap (λ e. e ++ Says said ∷ []) h.events_are ∙ ap (λ t. (h.before ++ h.heard) ++ Says t ∷ []) is;
    gone = h.gone;
    listens = h.listens;
  }

  pub gone_told : (said : List ℕ) → said ≡ last_line came.best → (a : List Event) → Gone owed state plan came text a → Told (a ++ Says said ∷ [])
  gone_told said is a gone = told_then said is a (record { before = a; heard = []; events_are = sym (append-nil a); gone = gone; listens = tt })

  pub told_shut : (events : List Event) → Told events → opened events ≡ []
  told_shut events t =
      ap opened t.events_are
      ∙ all_shut t.before t.heard (last_line came.best) (unstopped_shut t.before t.gone.unstopped) (listens_shut t.heard t.listens)

  -- what it answers
  pub told_goes : (asked : Go) (after : State) (line : Line) (events : List Event) (following : List Line) → IsPlan state asked plan
      → after ≡ announced state (announced_seen came.kept) → Told events
      → (is_held asked (mover state.game) ≡ true → IsStopped Uci following) → Follows came.why text following
      → Goes (Lacks owed (go_bound state asked)) state asked (turn_of line events after) following
  unfolding turn_of
  told_goes asked after line events following is after_is t stopped follows =
      t.gone.answers asked is t.heard t.listens (record { line = line; events = events; after = after }) following
      t.events_are after_is stopped follows

-- ---- what follows

-- anything follows what must wait
pub waits_follow : (holds : Bool) (why : Option Cut) (text : List ℕ) (following : List Line) → must_wait holds why ≡ true → Follows why text following
waits_follow holds None text following e = tt
waits_follow true (Some cut.Line) text following e = cc
waits_follow false (Some cut.Line) text following e = cc
waits_follow true (Some cut.End) text following e = cc
waits_follow false (Some cut.End) text following e = cc
waits_follow holds (Some (cut.Quota quota)) text following e = tt
waits_follow holds (Some (cut.Deadline reading)) text following e = tt

-- what follows a wait follows what cut the search before it
pub settled_follows : (holds : Bool) (moved : Moved) (why : Option Cut) (text text' : List ℕ) (why' : Option Cut) (following : List Line)
    → WaitedIfHeld Uci moved holds text why text' why' → Follows why' text' following → Follows why text following
settled_follows holds moved why text text' why' following settled follows = by_wait (must_wait holds why) refl settled
  where
    by_wait : (b : Bool) → must_wait holds why ≡ b → WaitedIfMust b Uci moved text why text' why' → Follows why text following
    by_wait true e s = waits_follow holds why text following e
    by_wait false e s =
        subst (λ t. Follows why t following) s.1 (subst (λ w. Follows w text' following) s.2 follows)

-- a best move that is held back is stopped
pub settled_stopped : (state : State) (plan : GoPlan) (asked : Go) (moved : Moved) (why : Option Cut) (text : List ℕ) (why' : Option Cut)
    (text' : List ℕ) (following : List Line) → IsPlan state asked plan → WaitedIfHeld Uci moved plan.holds text why text' why'
    → (why ≡ Some cut.Line → stops Uci (Text text) ≡ true) → Follows why' text' following
    → is_held asked (mover state.game) ≡ true → IsStopped Uci following
settled_stopped state plan asked moved why text why' text' following is settled stops follows holds =
    settled_stops Uci moved why text why' text' following
    (subst (λ b. WaitedIfHeld Uci moved b text why text' why') (is.held_is ∙ holds) settled) stops follows

-- ---- the answer

module _ {moved : Moved} {owed owed' : Owed} (state after : State) (plan : GoPlan) (came : GoResult) (text : List ℕ)
    (line : Line) (asked : Go) (asks : command_of line ≡ UciLines.Go asked) (is : IsPlan state asked plan) where
  -- a best move was told, and the next line is there
  pub served_told : {next : Got} {text' : List ℕ} → Ran Uci moved (got_lines next text') (Told owed state plan came text)
      → after ≡ announced state (announced_seen came.kept)
      → ((following : List Line) → MayFollow next following → is_held asked (mover state.game) ≡ true → IsStopped Uci (got_lines next text' ++ following))
      → ((following : List Line) → MayFollow next following → Follows came.why text (got_lines next text' ++ following))
      → Spends owed owed' (go_bound state asked)
      → Served uci moved (λ reads. reads ≡ []) owed owed' state after line next text'
  served_told {next = next} {text' = text'} ran after_is stopped follows spends =
      served_ran uci (λ reads. reads ≡ []) ran (told_shut owed state plan came text)
      (λ events told following may.
      subst (λ n. uci.answers (Lacks owed n) state (turn_of line events after) (got_lines next text' ++ following)) (sym (go_is state line asked asks))
      (as_go (Lacks owed (go_bound state asked)) state after line asked events (got_lines next text' ++ following) asks
      (told_goes owed state plan came text asked after line events (got_lines next text' ++ following) is after_is told
      (stopped following may) (follows following may))))
      (subst (λ n. Spends owed owed' n) (sym (go_is state line asked asks)) spends)

module _ {moved : Moved} {owed : Owed} (state : State) (plan : GoPlan) (came : GoResult) (text : List ℕ)
    (line : Line) (asked : Go) (asks : command_of line ≡ UciLines.Go asked) (is : IsPlan state asked plan) where
  -- a front part of it was written
  pub unserved_told : (contents : Option Contents) {behind : List Line} → RanPart Uci moved behind (Told owed state plan came text) → Held behind
      → (is_held asked (mover state.game) ≡ true → IsStopped Uci behind) → Follows came.why text behind
      → Unserved uci moved (λ reads. reads ≡ []) contents state line
  unserved_told contents {behind = behind} part single stopped follows =
      unserved_part uci (λ reads. reads ≡ []) (announced state (announced_seen came.kept)) part single refl (told_shut owed state plan came text)
      (λ events told.
      uci_is_wider (Lacks owed (go_bound state asked)) (Unit {0}) (λ few. tt) state (turn_of line events (announced state (announced_seen came.kept))) behind
      (as_go (Lacks owed (go_bound state asked)) state (announced state (announced_seen came.kept)) line asked events behind asks
      (told_goes owed state plan came text asked (announced state (announced_seen came.kept)) line events behind is refl told stopped follows)))
      (further_none contents)

-- a search that broke off, with its best move
pub unserved_broke : {moved : Moved} (state : State) (plan : GoPlan) (line : Line) (asked : Go) (contents : Option Contents)
    → command_of line ≡ UciLines.Go asked → IsPlan state asked plan → (b : BrokeGoing moved state plan)
    → RanPart Uci moved b.behind (λ events. (before : List Event) × (events ≡ before ++ Says (last_line b.best) ∷ []) × Completes state plan b.best b.kept b.behind before)
    → Unserved uci moved (λ reads. reads ≡ []) contents state line
unfolding turn_of
unserved_broke state plan line asked contents asks is b part =
    unserved_part uci (λ reads. reads ≡ []) (announced state b.kept) part b.is_held refl
    (λ events told.
    ap opened told.1 ∙ flat_map-append opened_at told.0 (Says (last_line b.best) ∷ []) ∙ append-nil (opened told.0) ∙ unstopped_shut told.0 told.2.unstopped)
    (λ events told.
    as_go (Unit {0}) state (announced state b.kept) line asked events b.behind asks
    (told.2.answers asked is (record { line = line; events = events; after = announced state b.kept }) told.1 refl))
    (further_none contents)

-- ---- what is said at once

module _ (state after : State) (plan : GoPlan) (game : Played) (text said : List ℕ) (game_is : game ≡ state.game)
    (once : SaidAtOnce game plan (Some text)) (said_is : said ≡ text) (after_is : after ≡ forgotten state) where
  once_goes : (line : Line) (asked : Go) → command_of line ≡ UciLines.Go asked → IsPlan state asked plan
      → AnswersAlways uci state after line (Says said ∷ [])
  unfolding turn_of
  once_goes line asked asks is A following =
      as_go A state after line asked (Says said ∷ []) following asks
      (said_goes A state plan asked text (record { line = line; events = Says said ∷ []; after = after }) following is
      (subst (λ g. SaidAtOnce g plan (Some text)) game_is once) after_is (ap (λ t. Says t ∷ []) said_is))

  pub served_once : {S K C : Type 0} {left : S → Maybe (List ℕ)} {taken : K → Maybe (List ℕ)} {given : C → Maybe (List ℕ)} {count last : C → ℕ} {s s' : S} {k k' : K} (c : C) {owed owed' : Owed} {next : Got} {text' : List ℕ}
      → Appends (taken k) (taken k') said → Takes (left s) (left s') (got_lines next text') → owed' ≡ owed
      → (line : Line) (asked : Go) → command_of line ≡ UciLines.Go asked → IsPlan state asked plan
      → Served uci (Moves left taken given count last s s' k k' c c) (λ reads. reads ≡ []) owed owed' state after line next text'
  served_once c wrote takes same line asked asks is =
      served_said uci c (λ reads. reads ≡ []) said (once_goes line asked asks is) refl wrote takes same

  pub unserved_once : {S K C : Type 0} {left : S → Maybe (List ℕ)} {taken : K → Maybe (List ℕ)} {given : C → Maybe (List ℕ)} {count last : C → ℕ} (s : S) {k k' : K} (c : C) → AppendsFront (taken k) (taken k') said → (contents : Option Contents)
      (line : Line) (asked : Go) → command_of line ≡ UciLines.Go asked → IsPlan state asked plan
      → Unserved uci (Moves left taken given count last s s k k' c c) (λ reads. reads ≡ []) contents state line
  unserved_once s c wrote contents line asked asks is =
      unserved_said uci s c (λ reads. reads ≡ []) contents after said (once_goes line asked asks is) refl (further_none contents) wrote

-- nothing was done
pub unserved_still : {S K C : Type 0} {left : S → Maybe (List ℕ)} {taken : K → Maybe (List ℕ)} {given : C → Maybe (List ℕ)} {count last : C → ℕ}
    (state : State) (plan : GoPlan) (s : S) (k : K) (c : C) (contents : Option Contents)
    (line : Line) (asked : Go) → command_of line ≡ UciLines.Go asked → IsPlan state asked plan
    → Unserved uci (Moves left taken given count last s s k k c c) (λ reads. reads ≡ []) contents state line
unserved_still state plan s k c contents line asked asks is =
    unserved_quiet uci uci_is_lawful.output s k c (λ reads. reads ≡ []) contents state line (ap is_quit asks) refl

-- ---- results

pub if_told : {T E P : Type 0} (r : Result T E) (Q R : T → Type 0) → OnOk r P → IfOk r Q → ((x : T) → P → Q x → R x) → IfOk r R
if_told (Ok x) Q R p q f = f x p q
if_told (Err why) Q R p q f = tt

pub if_untold : {T E P Q R : Type 0} (r : Result T E) → OnErr r P → OnErr r Q → (P → Q → R) → OnErr r R
if_untold (Ok x) p q f = tt
if_untold (Err why) p q f = f p q

pub if_ok : {T E : Type 0} (r : Result T E) (P R : T → Type 0) → IfOk r P → ((x : T) → P x → R x) → IfOk r R
if_ok (Ok x) P R p f = f x p
if_ok (Err why) P R p f = tt
