-- Searches, and what is told of them, as answers to `go`.
use Rattle.std.proofs.Common.{◌≡◌, ◌∙◌, ◌≤◌, ◌<◌, ℕ, zero, suc, ◌+◌, List, [], ◌∷◌, ◌++◌, length, get_or, Option, Some, None, true, refl, sym, ap, subst, inl, inr, arith}
use Rattle.std.specs.Prelude.{All}
use Rattle.std.proofs.lemmas.List.{append-nil}
use Rattle.io_ports.specs.declared.dialect.Dialect.{Dialect}
use Rattle.io_ports.specs.declared.dialect.Dialect.TheVariants.{Uci}
use Rattle.io_ports.specs.Lines.{Line}
use Rattle.foundation.specs.Member.{Member}
use Rattle.game_play.specs.Played.{Played, legal_in, story}
use Rattle.evaluation.specs.Bounds.{depths_bound, mates_bound}
use Rattle.rules_model.specs.declared.moves.Move.{Move}
use Rattle.rules_model.specs.declared.rules.Rules.{Rules}
use Rattle.rules_model.specs.Sound.{is_sound}
use Rattle.session_model.proofs.Joined.{reached_before, readings-append, readings_said, said-append, unstopped_more}
use Rattle.session_model.proofs.Reports.{deepens_read, sought_range}
use Rattle.session_model.specs.Events.{IsStopped}
use Rattle.session_model.specs.Mates.{Announced, IsShown, mover}
use Rattle.session_model.specs.Thinking.{Task, Report, Score, Points, Mates, Mated, Ending, Whole, InSearch, InSolve, Cause, Interrupted, OutOfNodes, OutOfTime, AreReports, Deepens, IsReport, IsScore, MayCut, MayEnd, announced_by, last_announced, last_best, open_report, reported}
use Rattle.session_model.specs.Deadlines.{deadline_of}
use Rattle.session_model.specs.Turns.{Turn}
use Rattle.session_model.specs.UciGo.{Go, is_held, last_depth, last_mate}
use Rattle.session_model.specs.UciSession.{Concludes, Goes, GoesBy, GoesNowhere, Searches, AnswersMate, MateAnswer, announced, bound_by, first_of, go_bound, task_of}
use Rattle.session_model.specs.UciState.{State}
use Rattle.session_model.specs.UciTexts.{best_line, depth_lines}
use Rattle.strategy.specs.declared.nodes.Node.{Node}
use Rattle.strategy.specs.declared.nodes.Strategy.{Strategy}
use Rattle.strategy.specs.Reading.{AreSound}
use Rattle.watching.specs.Events.{Event, Hears, Says, Reads, Opens, AreUnstopped, Listens, readings, said}

-- ---- events

pub listens_said : (events : List Event) → Listens Uci events → said events ≡ []
listens_said [] h = refl
listens_said (Hears line ∷ events) h = listens_said events h.1
listens_said (Says text ∷ events) h = absurd h.0
listens_said (Reads reading ∷ events) h = listens_said events h.1
listens_said (Opens read ∷ events) h = absurd h.0

pub listens_unstopped : (events : List Event) → Listens Uci events → AreUnstopped Uci events
listens_unstopped [] h = tt
listens_unstopped (Hears line ∷ events) h = (h.0, listens_unstopped events h.1)
listens_unstopped (Says text ∷ events) h = absurd h.0
listens_unstopped (Reads reading ∷ events) h = (tt, listens_unstopped events h.1)
listens_unstopped (Opens read ∷ events) h = absurd h.0

-- a best move concludes what was told before it
pub concludes_of : (state : State) (asked : Go) (turn : Turn State) (following : List Line) (texts : List (List ℕ)) (best : Move)
    (kept : Option Announced) (before heard : List Event) → AreUnstopped Uci before → Listens Uci heard → said before ≡ texts
    → turn.events ≡ (before ++ heard) ++ Says (best_line best) ∷ [] → turn.after ≡ announced state kept
    → (is_held asked (mover state.game) ≡ true → IsStopped Uci following)
    → Concludes state asked turn following texts best kept
concludes_of state asked turn following texts best kept before heard unstopped listens texts_are events after stopped = record {
  before = before ++ heard;
  events_are = events;
  unstopped = unstopped_more Uci before heard unstopped (listens_unstopped heard listens);
  lines_are =
      said-append before heard ∙ ap (λ t. said before ++ t) (listens_said heard listens) ∙ append-nil (said before) ∙ texts_are;
  held = stopped;
  after_is = after;
}

-- the readings of a turn are those before its best move
pub turn_readings : (turn : Turn State) (before heard : List Event) (text : List ℕ) → turn.events ≡ (before ++ heard) ++ Says text ∷ []
    → readings turn.events ≡ readings before ++ readings heard
turn_readings turn before heard text events =
    ap readings events ∙ readings_said (before ++ heard) text ∙ readings-append before heard

-- depth after depth, behind other lines
pub searches_of : (A : Type 0) (state : State) (asked : Go) (t : Task) (root : Move) (first : ℕ) (reports : List Report) (ending : Ending)
    (before heard : List Event) (taken : List ℕ) (texts : List (List ℕ)) (best : Move) (kept : Option Announced) (turn : Turn State) (following : List Line)
    → Deepens Uci A t reports ending (first ∷ taken) following → readings before ≡ first ∷ taken → AreUnstopped Uci before → Listens Uci heard
    → said before ≡ texts ++ depth_lines state.game.rules 1 (reported reports ending)
    → best ≡ last_best root (reported reports ending) → kept ≡ last_announced None (reported reports ending)
    → turn.events ≡ (before ++ heard) ++ Says (best_line best) ∷ [] → turn.after ≡ announced state kept
    → (is_held asked (mover state.game) ≡ true → IsStopped Uci following)
    → Searches A state asked t root turn following texts
searches_of A state asked t root first reports ending before heard taken texts best kept turn following deepens read unstopped listens lines best_is kept_is events after stopped = record {
  reports = reports;
  ending = ending;
  deepens =
      subst (λ r. Deepens Uci A t reports ending r following)
      (sym (turn_readings turn before heard (best_line best) events ∙ ap (λ r. r ++ readings heard) read))
      (deepens_read Uci A t reports ending first taken (readings heard) following deepens);
  concludes =
      concludes_of state asked turn following (texts ++ depth_lines state.game.rules 1 (reported reports ending)) (last_best root (reported reports ending))
      (last_announced None (reported reports ending)) before heard unstopped listens lines
      (events ∙ ap (λ b. (before ++ heard) ++ Says (best_line b) ∷ []) best_is)
      (after ∙ ap (λ k. announced state k) kept_is) stopped;
}

-- ---- a search without a time does not depend on readings

cut_timeless : (dialect : Dialect) (A : Type 0) (share : Option ℕ) (bound : ℕ) (taken taken' : List ℕ) (following : List Line) (cause : Cause)
    → MayCut dialect A share None bound taken following cause → MayCut dialect A share None bound taken' following cause
cut_timeless dialect A share bound taken taken' following Interrupted h = h
cut_timeless dialect A share bound taken taken' following OutOfNodes h = h
cut_timeless dialect A share bound taken taken' following OutOfTime h = absurd h

module _ (dialect : Dialect) (A : Type 0) (t : Task) (timeless : t.time ≡ None) (taken taken' : List ℕ) (following : List Line) where
  cut_same : (bound : ℕ) (cause : Cause) → MayCut dialect A t.share t.time bound taken following cause
      → MayCut dialect A t.share t.time bound taken' following cause
  cut_same bound cause h =
      subst (λ time. MayCut dialect A t.share time bound taken' following cause) (sym timeless)
      (cut_timeless dialect A t.share bound taken taken' following cause
      (subst (λ time. MayCut dialect A t.share time bound taken following cause) timeless h))

  end_same : (done : ℕ) (ending : Ending) → MayEnd dialect A t done taken following ending → MayEnd dialect A t done taken' following ending
  end_same done Whole h = h
  end_same done (InSearch cause) h = (h.0, cut_same _ cause h.1)
  end_same done (InSolve report n cause) h = (h.0, h.1, cut_same _ cause h.2)

  pub deepens_timeless : (reports : List Report) (ending : Ending) → Deepens dialect A t reports ending taken following
      → Deepens dialect A t reports ending taken' following
  deepens_timeless reports ending h = record { valued = h.valued; ended = end_same (length reports) ending h.ended }

-- ---- what cuts a solve, and readings after it

pub may_cut_read : (A : Type 0) (share time : Option ℕ) (bound first : ℕ) (taken more : List ℕ) (following : List Line) (cause : Cause)
    → MayCut Uci A share time bound (first ∷ taken) following cause → MayCut Uci A share time bound (first ∷ (taken ++ more)) following cause
may_cut_read A share time bound first taken more following Interrupted h = h
may_cut_read A share time bound first taken more following OutOfNodes h = h
may_cut_read A share None bound first taken more following OutOfTime h = h
may_cut_read A share (Some time) bound first taken more following OutOfTime h =
    reached_before (deadline_of (Some time) (first ∷ taken)) (first ∷ taken) more h

pub may_cut_wider : (A B : Type 0) → (A → B) → (share time : Option ℕ) (bound : ℕ) (taken : List ℕ) (following : List Line) (cause : Cause)
    → MayCut Uci A share time bound taken following cause → MayCut Uci B share time bound taken following cause
may_cut_wider A B f share time bound taken following Interrupted h = (f h.0, h.1)
may_cut_wider A B f share time bound taken following OutOfNodes h = h
may_cut_wider A B f share time bound taken following OutOfTime h = h

-- ---- `go` by what it asks

module _ (A : Type 0) (state : State) (asked : Go) (turn : Turn State) (following : List Line) (perft : None ≡ asked.perft) where
  -- where no move is legal
  pub goes_nowhere : legal_in state.game ≡ [] → GoesNowhere (is_held asked (mover state.game)) state turn following
      → Goes A state asked turn following
  goes_nowhere none h =
      subst (λ perft. GoesBy perft asked.mate (legal_in state.game) A state asked turn following) perft
      (subst (λ legal. GoesBy None asked.mate legal A state asked turn following) (sym none) h)

  pub goes_depths : (first : Move) (more : List Move) → legal_in state.game ≡ first ∷ more → None ≡ asked.mate
      → Searches A state asked (task_of state asked) (first_of first (task_of state asked).roots) turn following []
      → Goes A state asked turn following
  goes_depths first more legal mate h =
      subst (λ perft. GoesBy perft asked.mate (legal_in state.game) A state asked turn following) perft
      (subst (λ legal. GoesBy None asked.mate legal A state asked turn following) (sym legal)
      (subst (λ mate. GoesBy None mate (first ∷ more) A state asked turn following) mate h))

  pub goes_mate : (first : Move) (more : List Move) (n : ℕ) → legal_in state.game ≡ first ∷ more → Some n ≡ asked.mate
      → (answer : MateAnswer) → AnswersMate A state asked (last_mate n) first turn following answer
      → Goes A state asked turn following
  goes_mate first more n legal mate answer h =
      subst (λ perft. GoesBy perft asked.mate (legal_in state.game) A state asked turn following) perft
      (subst (λ legal. GoesBy None asked.mate legal A state asked turn following) (sym legal)
      (subst (λ mate. GoesBy None mate (first ∷ more) A state asked turn following) mate (answer, h)))

module _ (state : State) (asked : Go) (perft : None ≡ asked.perft) where
  pub bound_nowhere : legal_in state.game ≡ [] → go_bound state asked ≡ 0
  unfolding go_bound
  bound_nowhere none =
      sym (ap (λ perft. bound_by perft asked.mate (legal_in state.game) state asked) perft) ∙ ap (λ legal. bound_by None asked.mate legal state asked) none

  pub bound_depths : (first : Move) (more : List Move) → legal_in state.game ≡ first ∷ more → None ≡ asked.mate
      → go_bound state asked ≡ depths_bound state.game.rules (last_depth asked) (story state.game)
  unfolding go_bound
  bound_depths first more legal mate =
      sym (ap (λ perft. bound_by perft asked.mate (legal_in state.game) state asked) perft) ∙ ap (λ legal. bound_by None asked.mate legal state asked) legal
      ∙ sym (ap (λ mate. bound_by None mate (first ∷ more) state asked) mate)

  pub bound_mate : (first : Move) (more : List Move) (n : ℕ) → legal_in state.game ≡ first ∷ more → Some n ≡ asked.mate
      → go_bound state asked ≡ mates_bound state.game.rules (last_mate n) (story state.game)
  unfolding go_bound
  bound_mate first more n legal mate =
      sym (ap (λ perft. bound_by perft asked.mate (legal_in state.game) state asked) perft) ∙ ap (λ legal. bound_by None asked.mate legal state asked) legal
      ∙ sym (ap (λ mate. bound_by None mate (first ∷ more) state asked) mate)

-- ---- a mate that is kept can be printed

-- it has from 1 to 100 moves, and its positions are sound
pub record IsKept (rules : Rules) (a : Announced) : Type 0 where
  pub least : 1 ≤ a.moves
  pub most : a.moves ≤ 100
  pub sound : AreSound rules a.strategy.nodes

abbrev pub AreKept : Rules → Option Announced → Type 0
AreKept rules None = Unit {0}
AreKept rules (Some a) = IsKept rules a

pub all_of : {X : Type 0} (P : X → Type 0) (xs : List X) → ((x : X) → Member x xs → P x) → All P xs
all_of P xs h = λ i d below. h (get_or xs i d) (there xs i d below)
  where
    there : {X : Type 0} (xs : List X) (i : ℕ) (d : X) → i < length xs → Member (get_or xs i d) xs
    there [] i d below = absurd (omega arith)
    there (x ∷ xs) zero d below = inl refl
    there (x ∷ xs) (suc i) d below = inr (there xs i d (omega arith))

pub shown_sound : (g : Played) (n : ℕ) (side : _) (s : Strategy) → IsShown g n side s → AreSound g.rules s.nodes
shown_sound g n side s shown = all_of (λ (v : Node). is_sound g.rules v.position ≡ true) s.nodes (λ v member. (shown.written v member).sound)

score_kept : (t : Task) (depth : ℕ) (report : Report) (before : Option Announced) → IsReport t depth report → AreKept t.game.rules before
    → AreKept t.game.rules (announced_by report.score before)
score_kept t depth report before is kept = by_score report.score is.scored
  where
    by_score : (score : Score) → IsScore t depth score report.best report.unsettled → AreKept t.game.rules (announced_by score before)
    by_score (Points points) h = kept
    by_score (Mates n s) h =
        let range = sought_range t depth n h.0 in record { least = range.0; most = range.1; sound = shown_sound t.game n _ s h.2 }
    by_score (Mated n s) h =
        let range = sought_range t depth n h.0 in record { least = range.0; most = range.1; sound = shown_sound t.game n _ s h.2 }

reports_kept : (t : Task) (depth : ℕ) (reports more : List Report) (before : Option Announced) → AreReports t depth reports
    → ((kept : Option Announced) → AreKept t.game.rules kept → AreKept t.game.rules (last_announced kept more))
    → AreKept t.game.rules before → AreKept t.game.rules (last_announced before (reports ++ more))
reports_kept t depth [] more before valued later kept = later before kept
reports_kept t depth (report ∷ reports) more before valued later kept =
    reports_kept t (depth + 1) reports more (announced_by report.score before) valued.1 later (score_kept t depth report before valued.0 kept)

pub deepens_kept : (A : Type 0) (t : Task) (reports : List Report) (ending : Ending) (taken : List ℕ) (following : List Line)
    → Deepens Uci A t reports ending taken following → AreKept t.game.rules (last_announced None (reported reports ending))
deepens_kept A t reports ending taken following h =
    reports_kept t 1 reports (open_report ending) None h.valued (by_ending ending h.ended) tt
  where
    by_ending : (ending : Ending) → MayEnd Uci A t (length reports) taken following ending → (kept : Option Announced) → AreKept t.game.rules kept
        → AreKept t.game.rules (last_announced kept (open_report ending))
    by_ending Whole h kept k = k
    by_ending (InSearch cause) h kept k = k
    by_ending (InSolve report n cause) h kept k = subst (λ score. AreKept t.game.rules (announced_by score kept)) (sym h.1.score) k
