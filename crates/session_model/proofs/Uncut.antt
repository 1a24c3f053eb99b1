-- What nothing cuts is done, and what is announced is won.
use Rattle.std.proofs.Common.{◌≡◌, ◌⊎◌, inl, inr, Bool, true, false, ℕ, ◌+◌, ◌*◌, ◌≤◌, ◌<◌, List, [], ◌∷◌, ◌++◌, length, not, Option, Some, None, refl, sym, ap, subst, arith}
use Rattle.io_ports.specs.declared.dialect.Dialect.{Dialect}
use Rattle.io_ports.specs.Lines.{Line}
use Rattle.rules_model.specs.declared.board.Side.{Side}
use Rattle.rules_model.specs.declared.moves.Move.{Move}
use Rattle.rules_model.specs.Sides.{other}
use Rattle.forced_wins.proofs.StrategyLaws.{good-strategy-wins}
use Rattle.forced_wins.specs.Wins.{IsInLimit}
use Rattle.foundation.specs.Tests.{is_nil}
use Rattle.std.specs.Prelude.{T}
use Rattle.std.proofs.lemmas.Bool.{and_parts}
use Rattle.game_play.specs.Played.{Played, legal_in, story}
use Rattle.strategy.specs.declared.nodes.Strategy.{Strategy}
use Rattle.strategy_check.specs.Rows.{kept}
use Rattle.session_model.specs.Deadlines.{IsReached, deadline_of}
use Rattle.session_model.specs.Laws.{RunsWhole, MatesAreShown, ShowsWhereWon, MatesAreWon, IsMateWon, ShownWins, AnsweredMatesAreWon, PrintsAll, DepthsArePrinted, PlaysWhole, ThinksWhole, PrintsMate, PrintsNoMate, MatesArePrinted}
use Rattle.session_model.specs.Mates.{Evidence, IsShown, IsWin, mover}
use Rattle.session_model.specs.Thinking.{Task, Report, Score, Points, Mates, Mated, Cause, Interrupted, OutOfNodes, OutOfTime, MayCut, IsShort, Ending, Whole, InSearch, InSolve, MayEnd, IsScore, last_best, reported}
use Rattle.io_ports.specs.declared.dialect.Dialect.TheVariants.{Uci, Cecp}
use Rattle.evaluation.specs.Bounds.{solve_bound}
use Rattle.watching.specs.Events.{Event, Hears, Says, Reads, Opens, readings, said}
use Rattle.session_model.specs.UciGo.{Go, last_depth, last_mate, share_of, time_for}
use Rattle.session_model.specs.UciSession.{Answers, AnswersMate, GoesBy, MateAnswer, Searches, Shown, Unsettled, Stopped, NoMate, first_of, task_after_mate, task_of}
use Rattle.session_model.specs.UciState.{State}
use Rattle.session_model.specs.UciTexts.{best_line, depth_lines, no_mate_line}
use Rattle.session_model.specs.Turns.{Turn, lines_in}
use Rattle.session_model.specs.CecpSession as CecpSession
use Rattle.session_model.specs.CecpState as CecpState
use Rattle.forced_wins.proofs.Blocked.{wins-grow}

-- nothing cuts
no_cut : (dialect : Dialect) (share time : Option ℕ) (bound : ℕ) (taken : List ℕ) (following : List Line) (cause : Cause)
    → share ≡ None → time ≡ None → MayCut dialect ⊥ share time bound taken following cause → ⊥
no_cut dialect share time bound taken following Interrupted no_share no_time h = h.0
no_cut dialect share time bound taken following OutOfNodes no_share no_time h =
    subst (λ s. IsShort s bound) no_share h
no_cut dialect share time bound taken following OutOfTime no_share no_time h =
    subst (λ t. IsReached (deadline_of t taken) taken) no_time h

whole : (dialect : Dialect) (t : Task) (done : ℕ) (taken : List ℕ) (following : List Line) (ending : Ending)
    → MayEnd dialect ⊥ t done taken following ending → t.share ≡ None → t.time ≡ None → (ending ≡ Whole) × (done ≡ t.depths)
whole dialect t done taken following Whole h no_share no_time = (refl, h)
whole dialect t done taken following (InSearch cause) h no_share no_time =
    absurd (no_cut dialect t.share t.time _ taken following cause no_share no_time h.1)
whole dialect t done taken following (InSolve report n cause) h no_share no_time =
    absurd (no_cut dialect t.share t.time _ taken following cause no_share no_time h.2)

pub runs_whole : RunsWhole
runs_whole dialect t reports ending taken following h no_share no_time =
    whole dialect t (length reports) taken following ending h.ended no_share no_time

-- a strategy that is shown wins
shown_wins : (g : Played) (n : ℕ) (side : Side) (s : Strategy) → IsShown g n side s → IsWin g n side
shown_wins g n side s h = good-strategy-wins g.rules kept (story g) side n s.attacker s.nodes h.good

out_of_limit : (moves counter n last : ℕ) → n ≤ last → 0 < moves → 2 * moves ≤ counter + 2 * n
    → (moves ≡ 0) ⊎ (counter + 2 * last < 2 * moves) → ⊥
out_of_limit moves counter n last few some close (inl none) = absurd (omega arith)
out_of_limit moves counter n last few some close (inr within) = absurd (omega arith)

pub mates_are_shown : MatesAreShown
mates_are_shown state go last first turn following (Shown n s best) h no_share no_time limit =
    (shown_wins state.game n (mover state.game) s h.1, h.0.first)
mates_are_shown state go last first turn following (Unsettled n e) h no_share no_time limit =
    out_of_limit _ _ n last h.0.few h.1.unsettled.counted h.1.unsettled.close limit
mates_are_shown state go last first turn following (Stopped n cause) h no_share no_time limit =
    no_cut Uci (share_of go state.threads) (time_for go (mover state.game)) (solve_bound state.game.rules n (story state.game))
    (readings turn.events) following cause no_share no_time h.1
mates_are_shown state go last first turn following NoMate h no_share no_time limit = h.0

won_by_score : (t : Task) (depth : ℕ) (score : Score) (best : Move) (unsettled : Option Evidence)
    → IsScore t depth score best unsettled → IsMateWon t.game score
won_by_score t depth (Points points) best unsettled h = tt
won_by_score t depth (Mates n s) best unsettled h = shown_wins t.game n (mover t.game) s h.2
won_by_score t depth (Mated n s) best unsettled h = shown_wins t.game n (other (mover t.game)) s h.2

pub mates_are_won : MatesAreWon
mates_are_won t depth report h = won_by_score t depth report.score report.best report.unsettled h.scored

-- ---- and so for `go mate`

pub shown_is_won : ShownWins
shown_is_won = shown_wins

pub answered_is_won : AnsweredMatesAreWon
answered_is_won owed bound state go last n s first best turn following h =
    (shown_wins state.game n (mover state.game) s h.1, h.0.first)

pub shows_where_won : ShowsWhereWon
shows_where_won state go last first turn following (Shown n s best) h no_share no_time limit some =
    sym (wins-grow state.game.rules n last (story state.game) (mover state.game) h.0.few
    (shown_wins state.game n (mover state.game) s h.1))
shows_where_won state go last first turn following (Unsettled n e) h no_share no_time limit some =
    absurd (out_of_limit _ _ n last h.0.few h.1.unsettled.counted h.1.unsettled.close limit)
shows_where_won state go last first turn following (Stopped n cause) h no_share no_time limit some =
    absurd (no_cut Uci (share_of go state.threads) (time_for go (mover state.game)) (solve_bound state.game.rules n (story state.game))
    (readings turn.events) following cause no_share no_time h.1)
shows_where_won state go last first turn following NoMate h no_share no_time limit some = sym (h.0 last some (omega arith))

-- ---- all depths

said_append : (before : List Event) (text : List ℕ) → said (before ++ Says text ∷ []) ≡ said before ++ text ∷ []
said_append [] text = refl
said_append (Hears line ∷ events) text = said_append events text
said_append (Says before ∷ events) text = ap (λ more. before ∷ more) (said_append events text)
said_append (Reads reading ∷ events) text = said_append events text
said_append (Opens read ∷ events) text = said_append events text

said_last : (events before : List Event) (text : List ℕ) (texts : List (List ℕ)) → events ≡ before ++ Says text ∷ []
    → said before ≡ texts → said events ≡ texts ++ text ∷ []
said_last events before text texts are texts_are =
    subst (λ e. said e ≡ texts ++ text ∷ []) (sym are)
    (subst (λ ts. said (before ++ Says text ∷ []) ≡ ts ++ text ∷ []) texts_are (said_append before text))

none_more : (reports : List Report) → reports ++ [] ≡ reports
none_more [] = refl
none_more (report ∷ reports) = ap (λ more. report ∷ more) (none_more reports)

all_reported : (reports : List Report) (ending : Ending) → ending ≡ Whole → reported reports ending ≡ reports
all_reported reports ending is = subst (λ e. reported reports e ≡ reports) (sym is) (none_more reports)

prints_by : (state : State) (go : Go) (first : Move) (legal : List Move) (turn : Turn State) (following : List Line)
    → GoesBy None None (first ∷ legal) ⊥ state go turn following
    → share_of go state.threads ≡ None → time_for go (mover state.game) ≡ None → PrintsAll state go first turn
prints_by state go first legal turn following h no_share no_time =
    let w : (h.ending ≡ Whole) × (length h.reports ≡ last_depth go) =
    runs_whole Uci (task_of state go) h.reports h.ending (readings turn.events) following h.deepens no_share no_time in
    record {
      reports = h.reports;
      number = w.1;
      valued = h.deepens.valued;
      texts =
          subst (λ reports. said turn.events
          ≡ depth_lines state.game.rules 1 reports ++ best_line (last_best (first_of first (task_of state go).roots) reports) ∷ [])
          (all_reported h.reports h.ending w.0)
          (said_last turn.events h.concludes.before _ _ h.concludes.events_are h.concludes.lines_are);
    }

pub depths_are_printed : DepthsArePrinted
depths_are_printed used state turn turns following go first legal h is legal_is no_perft no_mate no_share no_time =
    prints_by state go first legal turn (lines_in turns ++ following)
    (subst (λ moves. GoesBy None None moves ⊥ state go turn (lines_in turns ++ following)) legal_is
    (subst (λ mate. GoesBy None mate (legal_in state.game) ⊥ state go turn (lines_in turns ++ following)) no_mate
    (subst (λ perft. GoesBy perft go.mate (legal_in state.game) ⊥ state go turn (lines_in turns ++ following)) no_perft
    (subst (λ command. Answers ⊥ state turn (lines_in turns ++ following) command) is h.1))))
    no_share no_time

-- ---- and of a thinking

not_true : (b : Bool) → not b ≡ true → b ≡ false
not_true true h = cc
not_true false h = refl

-- where the engine thinks, some move is legal
some_legal : (state : CecpState.State) → CecpState.thinks state ≡ true → is_nil (legal_in state.game) ≡ false
unfolding CecpState.thinks
some_legal state thinking =
    let open_game = (and_parts _ _ thinking).1 in
    let some = (and_parts _ _ (and_parts _ _ open_game).1).0 in
    not_true (is_nil (legal_in state.game)) some

plays_by : (answer : CecpState.Answer) (legal : List Move) (turn : Turn CecpState.State) (following : List Line)
    → is_nil legal ≡ false → CecpSession.ThinksFrom true legal ⊥ answer turn following → CecpSession.time_for answer.state ≡ None
    → PlaysWhole answer turn
plays_by answer [] turn following some h no_time = absurd (subst T some tt)
plays_by answer (first ∷ legal) turn following some h no_time =
    let w : (h.ending ≡ Whole) × (length h.reports ≡ CecpSession.depth_for answer.state) =
    runs_whole Cecp (CecpSession.task_of answer.state) h.reports h.ending (readings h.before) following h.deepens refl no_time in
    let events : List Event = CecpSession.saying answer.text ++ h.before in
    record {
      first = first;
      before = h.before;
      reports = h.reports;
      number = w.1;
      valued = h.deepens.valued;
      posts = subst (λ reports. CecpSession.Posts answer.state.posts h.before reports) (all_reported h.reports h.ending w.0) h.posts;
      plays =
          subst (λ reports. CecpSession.Concludes false turn events answer.state (last_best first reports)) (none_more h.reports)
          (subst (λ ending. CecpSession.Concludes (CecpSession.is_moveless ending following) turn events answer.state
          (last_best first (reported h.reports ending))) w.0 h.concludes);
    }

pub thinks_whole : ThinksWhole
thinks_whole used state turn turns following h thinking no_time =
    let answer : CecpState.Answer = CecpSession.answer_of state turn.line in
    plays_by answer (legal_in answer.state.game) turn (lines_in turns ++ following) (some_legal answer.state thinking)
    (subst (λ b. CecpSession.ThinksFrom b (legal_in answer.state.game) ⊥ answer turn (lines_in turns ++ following)) thinking h.1)
    no_time

-- ---- the mate, or none

mate_by : (state : State) (go : Go) (last : ℕ) (first : Move) (turn : Turn State) (following : List Line) (answer : MateAnswer)
    → AnswersMate ⊥ state go last first turn following answer
    → share_of go state.threads ≡ None → time_for go (mover state.game) ≡ None
    → IsInLimit state.game.rules last (story state.game) → PrintsMate state last turn ⊎ PrintsNoMate state last first turn
mate_by state go last first turn following (Shown n s best) h no_share no_time limit = inl (record {
  number = n;
  strategy = s;
  best = best;
  decides = h.0;
  won = shown_wins state.game n (mover state.game) s h.1;
  first = h.2;
  texts = said_last turn.events h.3.before _ _ h.3.events_are h.3.lines_are;
})
mate_by state go last first turn following (Unsettled n e) h no_share no_time limit =
    absurd (out_of_limit _ _ n last h.0.few h.1.unsettled.counted h.1.unsettled.close limit)
mate_by state go last first turn following (Stopped n cause) h no_share no_time limit =
    absurd (no_cut Uci (share_of go state.threads) (time_for go (mover state.game)) (solve_bound state.game.rules n (story state.game))
    (readings turn.events) following cause no_share no_time h.1)
mate_by state go last first turn following NoMate h no_share no_time limit =
    let searched : Searches ⊥ state go (task_after_mate state) first turn following (no_mate_line last ∷ []) = h.1 in
    let w : (searched.ending ≡ Whole) × (length searched.reports ≡ 1) =
    runs_whole Uci (task_after_mate state) searched.reports searched.ending (readings turn.events) following searched.deepens refl refl in
    inr (record {
      none = h.0;
      reports = searched.reports;
      number = w.1;
      valued = searched.deepens.valued;
      texts =
          subst (λ reports. said turn.events
          ≡ no_mate_line last ∷ depth_lines state.game.rules 1 reports ++ best_line (last_best first reports) ∷ [])
          (all_reported searched.reports searched.ending w.0)
          (said_last turn.events searched.concludes.before _ _ searched.concludes.events_are searched.concludes.lines_are);
    })

pub mates_are_printed : MatesArePrinted
mates_are_printed used state turn turns following go n first legal h is legal_is no_perft mate_is no_share no_time limit =
    let after : List Line = lines_in turns ++ following in
    let mated : GoesBy None (Some n) (first ∷ legal) ⊥ state go turn after =
    subst (λ moves. GoesBy None (Some n) moves ⊥ state go turn after) legal_is
    (subst (λ mate. GoesBy None mate (legal_in state.game) ⊥ state go turn after) mate_is
    (subst (λ perft. GoesBy perft go.mate (legal_in state.game) ⊥ state go turn after) no_perft
    (subst (λ command. Answers ⊥ state turn after command) is h.1))) in
    mate_by state go (last_mate n) first turn after mated.0 mated.1 no_share no_time limit
