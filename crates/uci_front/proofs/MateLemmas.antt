-- Mates that are looked for, as answers to `go mate`.
use Rattle.std.proofs.Common.{◌≡◌, ◌∙◌, ◌≤◌, ◌<◌, ℕ, ◌+◌, List, [], ◌∷◌, ◌++◌, Option, Some, None, true, refl, sym, ap, subst, append_assoc, arith}
use Rattle.std.proofs.lemmas.List.{append-nil}
use Rattle.io_ports.proofs.Moved.{moves_at, moves_more}
use Rattle.io_ports.proofs.Owing.{lacks_before, lacks_wider, spends_more, spends_wider}
use Rattle.io_ports.specs.declared.dialect.Dialect.TheVariants.{Uci}
use Rattle.io_ports.specs.declared.limits.Limits.{Limits}
use Rattle.io_ports.specs.Heard.{stops}
use Rattle.io_ports.specs.Lines.{Line, Text}
use Rattle.io_ports.specs.Owing.{Lacks, Spends}
use Rattle.io_ports.specs.Source.{Owed}
use Rattle.io_ports.specs.Sink.{AppendsFront}
use Rattle.io_ports.specs.Trace.{Moves}
use Rattle.std.specs.Io.KnownBytes.{Appends}
use Rattle.game_play.specs.Played.{Played, IsPlayed, story}
use Rattle.evaluation.specs.Bounds.{depths_bound, mates_bound, solve_bound, solves_bound}
use Rattle.rules_model.specs.declared.moves.Move.{Move}
use Rattle.rules_model.specs.declared.rules.Rules.{Rules}
use Rattle.rules_model.specs.Games.{Story}
use Rattle.session_model.proofs.Joined.{said-append, readings-append, readings_said, unstopped_more}
use Rattle.session_model.proofs.Shown.{evidence_is_sound}
use Rattle.session_model.proofs.Wider.{deepens_wider}
use Rattle.session_model.specs.Deadlines.{deadline_of}
use Rattle.session_model.specs.Events.{IsStopped}
use Rattle.session_model.specs.Mates.{Announced, mover}
use Rattle.session_model.specs.Thinking.{Task, Report, Ending, InSearch, Cause, Interrupted, Deepens, MayCut, last_announced, last_best, reported}
use Rattle.session_model.specs.Turns.{Turn}
use Rattle.session_model.specs.UciGo.{Go, is_held, time_for}
use Rattle.session_model.specs.UciSession.{AnswersMate, Decides, Goes, MateAnswer, Searches, Shown, Unsettled, Stopped, NoMate, announced, first_of, go_bound, task_after_mate}
use Rattle.session_model.specs.UciState.{State}
use Rattle.session_model.specs.UciTexts.{best_line, depth_lines, stopped_line}
use Rattle.strategy.specs.declared.nodes.Strategy.{Strategy}
use Rattle.thinking.proofs.CutLaws.{cuts_as}
use Rattle.thinking.specs.Cuts.{CutsBy, cause_of}
use Rattle.thinking.specs.declared.deepening.Depths.{Depths}
use Rattle.thinking.specs.declared.mates.MateAttempt.{MateAttempt}
use Rattle.thinking.specs.declared.mates.MateAttempt.TheVariants as tried
use Rattle.thinking.specs.declared.style.Style.TheVariants as style
use Rattle.thinking.specs.Depths.{BrokeOff, Deepened}
use Rattle.thinking.specs.Tells.{Tells}
use Rattle.thinking.specs.Tries.{BrokeTrying, IsCutBy, IsMate, IsTried, answer_seen, cut_in}
use Rattle.thinking.specs.Views.{announced_seen}
use Rattle.session_model.proofs.Saying.{broke_say, held_cut, part_more, part_of_broke, part_then, ran_say, unsaid}
use Rattle.session_model.specs.Lines.{Follows, none}
use Rattle.session_model.specs.Turned.{RanPart}
use Rattle.uci_front.specs.declared.plan.GoPlan.{GoPlan}
use Rattle.uci_front.specs.declared.searching.GoResult.{GoResult}
use Rattle.uci_front.specs.Searched.{BrokeGoing, Completes, HasCome}
use Rattle.uci_front.specs.PlanView.{IsPlan, IsSayable, mate_said}
use Rattle.uci_front.specs.Trying.{came_by}
use Rattle.uci_front.proofs.HeldLemmas.{held_follows, held_stopped}
use Rattle.uci_front.proofs.SearchLemmas.{bound_mate, concludes_of, deepens_kept, deepens_timeless, goes_mate, listens_said, listens_unstopped, may_cut_read, may_cut_wider, searches_of, shown_sound, turn_readings}
use Rattle.uci_front.proofs.ThinkLemmas.{go_result_of, depths_stop, mate_some, perft_none, printable_of, read_part, read_then}
use Rattle.watching.specs.declared.halt.Cut.{Cut}
use Rattle.watching.specs.declared.halt.Cut.TheVariants as cut
use Rattle.watching.specs.Events.{Event, Says, Reads, AreUnstopped, Listens, heard_lines, readings, said}
use Rattle.watching.specs.Looks.{Moved, Ran, held}
use Rattle.watching.specs.EventLaws.{heard_lines-append, written-append}

-- ---- what is told

-- the first reading, what was heard, and what is told of the mate
abbrev pub mate_events : ℕ → List Event → List ℕ → List Event
mate_events reading events text = (Reads reading ∷ events) ++ Says text ∷ []

mate_unstopped : (reading : ℕ) (events : List Event) (text : List ℕ) → Listens Uci events → AreUnstopped Uci (mate_events reading events text)
mate_unstopped reading events text listens =
    unstopped_more Uci (Reads reading ∷ events) (Says text ∷ []) (tt, listens_unstopped events listens) (tt, tt)

mate_texts : (reading : ℕ) (events : List Event) (text : List ℕ) → Listens Uci events → said (mate_events reading events text) ≡ text ∷ []
mate_texts reading events text listens =
    said-append (Reads reading ∷ events) (Says text ∷ []) ∙ ap (λ t. t ++ text ∷ []) (listens_said events listens)

mate_readings : (reading : ℕ) (events : List Event) (text : List ℕ) → readings (mate_events reading events text) ≡ reading ∷ readings events
mate_readings reading events text = readings_said (Reads reading ∷ events) text

-- a text that can be told
pub sayable : (g : Played) (last : ℕ) (answer : MateAnswer) → last ≤ 100 → IsPlayed g → IsMate g last answer → IsSayable g.rules answer
sayable g last (Shown n s best) most played is =
    let some : 0 < n = is.0.some in let few : n ≤ last = is.0.few in (omega arith, omega arith)
sayable g last (Unsettled n e) most played is = evidence_is_sound g n (mover g) e played is.1
sayable g last (Stopped n cause) most played is = tt
sayable g last NoMate most played is = tt

-- depth 1 is searched after it
abbrev pub IsAfter : MateAnswer → Type 0
IsAfter (Shown n s best) = ⊥
IsAfter (Unsettled n e) = Unit {0}
IsAfter (Stopped n cause) = ⊥
IsAfter NoMate = Unit {0}

-- ---- answers

module _ (A : Type 0) (state : State) (plan : GoPlan) (asked : Go) (is : IsPlan state asked plan) (perft : plan.perft ≡ None)
    (last : ℕ) (mate : plan.mate ≡ Some last) (first : Move) (more : List Move) (legal : plan.legal ≡ first ∷ more) where
  as_mate : (turn : Turn State) (following : List Line) (answer : MateAnswer) → AnswersMate A state asked last first turn following answer
      → Goes A state asked turn following
  as_mate turn following answer h =
      let (n, asks, same) = mate_some plan asked state last is mate in
      goes_mate A state asked turn following (perft_none plan asked state is perft) first more n (sym is.legal_is ∙ legal) asks answer
      (subst (λ l. AnswersMate A state asked l first turn following answer) (sym same) h)

  mate_go_bound : go_bound state asked ≡ mates_bound state.game.rules last (story state.game)
  mate_go_bound =
      let (n, asks, same) = mate_some plan asked state last is mate in
      bound_mate state asked (perft_none plan asked state is perft) first more n (sym is.legal_is ∙ legal) asks
      ∙ ap (λ l. mates_bound state.game.rules l (story state.game)) same

  module _ (reading : ℕ) (events heard : List Event) (listens : Listens Uci events) (later : Listens Uci heard) (turn : Turn State) (following : List Line)
      (stopped : is_held asked (mover state.game) ≡ true → IsStopped Uci following) where
    shown_answer : (n : ℕ) (s : Strategy) (best : Move) → IsMate state.game last (Shown n s best)
        → turn.events ≡ (mate_events reading events (mate_said state.game.rules last (Shown n s best)) ++ heard) ++ Says (best_line best) ∷ []
        → turn.after ≡ announced state (Some (record { strategy = s; moves = n })) → Goes A state asked turn following
    shown_answer n s best m events_are after =
        let text = mate_said state.game.rules last (Shown n s best) in
        as_mate turn following (Shown n s best) (
          m.0,
          m.1,
          m.2,
          concludes_of state asked turn following (text ∷ []) best (Some (record { strategy = s; moves = n })) (mate_events reading events text) heard
              (mate_unstopped reading events text listens) later (mate_texts reading events text listens) events_are after stopped,
        )

    stopped_answer : (n : ℕ) (cause : Cause) → Decides state.game last n
        → MayCut Uci A plan.share plan.time (solve_bound state.game.rules n (story state.game)) (reading ∷ readings events) following cause
        → turn.events ≡ (mate_events reading events stopped_line ++ heard) ++ Says (best_line first) ∷ []
        → turn.after ≡ announced state None → Goes A state asked turn following
    stopped_answer n cause decides cut events_are after =
        let bound = solve_bound state.game.rules n (story state.game) in
        let taken : readings turn.events ≡ reading ∷ (readings events ++ readings heard) =
        turn_readings turn (mate_events reading events stopped_line) heard (best_line first) events_are
        ∙ ap (λ r. r ++ readings heard) (mate_readings reading events stopped_line) in
        as_mate turn following (Stopped n cause) (
          decides,
          subst (λ share. MayCut Uci A share (time_for asked (mover state.game)) bound (readings turn.events) following cause) is.share_is
              (subst (λ time. MayCut Uci A plan.share time bound (readings turn.events) following cause) is.time_is
              (subst (λ r. MayCut Uci A plan.share plan.time bound r following cause) (sym taken)
              (may_cut_read A plan.share plan.time bound reading (readings events) (readings heard) following cause cut))),
          concludes_of state asked turn following (stopped_line ∷ []) first None (mate_events reading events stopped_line) heard
              (mate_unstopped reading events stopped_line listens) later (mate_texts reading events stopped_line listens) events_are after stopped,
        )

    after_answer : (answer : MateAnswer) → IsMate state.game last answer → IsAfter answer
        → Searches A state asked (task_after_mate state) first turn following (mate_said state.game.rules last answer ∷ [])
        → Goes A state asked turn following
    after_answer (Shown n s best) m after h = absurd after
    after_answer (Unsettled n e) m after h = as_mate turn following (Unsettled n e) (m.0, m.1, h)
    after_answer (Stopped n cause) m after h = absurd after
    after_answer NoMate m after h = as_mate turn following NoMate (m, h)

    -- depth 1 after it
    depth_answer : (answer : MateAnswer) → IsMate state.game last answer → IsAfter answer → (reports : List Report) (ending : Ending) (told : List Event)
        (best : Move) (kept : Option Announced) (taken : List ℕ)
        → Deepens Uci A (task_after_mate state) reports ending taken following → AreUnstopped Uci told
        → said told ≡ depth_lines state.game.rules 1 (reported reports ending)
        → best ≡ last_best first (reported reports ending) → kept ≡ last_announced None (reported reports ending)
        → turn.events ≡ ((mate_events reading events (mate_said state.game.rules last answer) ++ told) ++ heard) ++ Says (best_line best) ∷ []
        → turn.after ≡ announced state kept → Goes A state asked turn following
    depth_answer answer m is_after reports ending told best kept taken deepens unstopped lines best_is kept_is events_are after =
        let text = mate_said state.game.rules last answer in let before = mate_events reading events text in
        after_answer answer m is_after
        (searches_of A state asked (task_after_mate state) first reading reports ending (before ++ told) heard (readings events ++ readings told) (text ∷ []) best kept turn following
        (deepens_timeless Uci A (task_after_mate state) refl taken (reading ∷ (readings events ++ readings told)) following reports ending deepens)
        (readings-append before told ∙ ap (λ r. r ++ readings told) (mate_readings reading events text))
        (unstopped_more Uci before told (mate_unstopped reading events text listens) unstopped) later
        (said-append before told ∙ ap (λ t. t ++ said told) (mate_texts reading events text listens) ∙ ap (λ t. text ∷ t) lines)
        best_is kept_is events_are after stopped)

-- ---- bounds

solves_few : (rules : Rules) (n : ℕ) (g : Story) → solves_bound rules n g ≤ mates_bound rules n g
unfolding mates_bound
solves_few rules n g = omega arith

both_bounds : (rules : Rules) (n : ℕ) (g : Story) → solves_bound rules n g + depths_bound rules 1 g ≡ mates_bound rules n g
unfolding mates_bound
both_bounds rules n g = refl

-- ---- what was tried, and told

-- the first reading, what was heard while a mate was looked for, and what is told of it
pub record MateTold (owed : Owed) (limits : Limits) (g : Played) (last reading : ℕ) (text : List ℕ) (t : MateAttempt) (said : List ℕ)
    (events : List Event) : Type 0 where
  pub heard : List Event
  pub events_are : events ≡ mate_events reading heard said
  pub listens : Listens Uci heard
  pub cut : IsCutBy Uci owed limits g last (readings heard) text t

pub told_mate : (owed : Owed) (limits : Limits) (g : Played) (last reading : ℕ) (text : List ℕ) (t : MateAttempt) (said : List ℕ) (events : List Event)
    → (heard : List Event) × (events ≡ Reads reading ∷ heard) × Listens Uci heard × IsCutBy Uci owed limits g last (readings heard) text t
    → MateTold owed limits g last reading text t said (events ++ Says said ∷ [])
told_mate owed limits g last reading text t said events (heard, are, listens, cut) =
    record { heard = heard; events_are = ap (λ e. e ++ Says said ∷ []) are; listens = listens; cut = cut }

module _ (owed : Owed) (state : State) (plan : GoPlan) (perft : plan.perft ≡ None) (last : ℕ) (most : last ≤ 100) (mate : plan.mate ≡ Some last)
    (first : Move) (more : List Move) (legal : plan.legal ≡ first ∷ more) (reading : ℕ) (limits : Limits) (share : limits.quota ≡ plan.share)
    (start : (later : List ℕ) → limits.deadline ≡ deadline_of plan.time (reading ∷ later)) (text said : List ℕ) where
  few_spent : (owed' : Owed) → Spends owed owed' (solves_bound state.game.rules last (story state.game))
      → (asked : Go) → IsPlan state asked plan → Spends owed owed' (go_bound state asked)
  few_spent owed' spends asked is =
      subst (λ n. Spends owed owed' n) (sym (mate_go_bound ⊥ state plan asked is perft last mate first more legal))
      (spends_wider owed owed' (solves_bound state.game.rules last (story state.game)) (mates_bound state.game.rules last (story state.game)) spends
      (solves_few state.game.rules last (story state.game)))

  -- a mate was shown
  pub shown_comes : {moved : Moved} {owed' : Owed} → Spends owed owed' (solves_bound state.game.rules last (story state.game)) → (n : ℕ) (s : Strategy) (best : Move) → IsMate state.game last (Shown n s best)
      → said ≡ mate_said state.game.rules last (Shown n s best)
      → Ran Uci moved [] (MateTold owed limits state.game last reading text (tried.Shown n s best) said)
      → HasCome moved owed owed' state plan text (record { best = Some best; kept = Some (record { strategy = s; moves = n }); why = None })
  shown_comes {owed' = owed'} spends n s best m said_is ran = record {
    ran = record {
      events = ran.events;
      went = ran.went;
      holds = record {
        unstopped = subst (AreUnstopped Uci) (sym ran.holds.events_are) (mate_unstopped reading ran.holds.heard said ran.holds.listens);
        stops = λ h. cc;
        answers = λ asked is heard later turn following events_are after stopped follows.
            shown_answer (Lacks owed (go_bound state asked)) state plan asked is perft last mate first more legal reading ran.holds.heard heard ran.holds.listens later turn following stopped n s best m
            (events_are ∙ ap (λ e. (e ++ heard) ++ Says (best_line best) ∷ []) (ran.holds.events_are ∙ ap (mate_events reading ran.holds.heard) said_is)) after;
      };
    };
    spends = few_spent owed' spends;
    printable =
        let some : 0 < n = m.0.some in let few : n ≤ last = m.0.few in
        (omega arith, omega arith, shown_sound state.game n (mover state.game) s m.1);
  }

  line_stops : (why : Cut) (n : ℕ) (taken : List ℕ) → IsCutBy Uci owed limits state.game last taken text (tried.Stopped n why) → ◌≡◌ {A = Option Cut} (Some why) (Some cut.Line)
      → stops Uci (Text text) ≡ true
  line_stops cut.Line n taken h e = h.1
  line_stops cut.End n taken h e = cc
  line_stops (cut.Quota quota) n taken h e = cc
  line_stops (cut.Deadline r) n taken h e = cc

  may_cut : (A : Type 0) → (Lacks owed (solves_bound state.game.rules last (story state.game)) → A) → (n : ℕ) (why : Cut) (taken : List ℕ) (following : List Line)
      → IsCutBy Uci owed limits state.game last taken text (tried.Stopped n why) → Follows (Some why) text following
      → MayCut Uci A plan.share plan.time (solve_bound state.game.rules n (story state.game)) (reading ∷ taken) following (cause_of why)
  may_cut A f n why taken following cuts follows =
      may_cut_wider (Lacks owed (solves_bound state.game.rules last (story state.game))) A f plan.share plan.time
      (solve_bound state.game.rules n (story state.game)) (reading ∷ taken) following (cause_of why)
      (cuts_as Uci why owed (solves_bound state.game.rules last (story state.game)) plan.share plan.time limits.deadline
      (solve_bound state.game.rules n (story state.game)) reading taken text following start follows
      (subst (λ share. CutsBy Uci owed (solves_bound state.game.rules last (story state.game)) share limits.deadline (solve_bound state.game.rules n (story state.game)) taken text why) share cuts))

  -- a solve was cut
  pub stopped_comes : {moved : Moved} {owed' : Owed} → Spends owed owed' (solves_bound state.game.rules last (story state.game)) → (n : ℕ) (why : Cut) → Decides state.game last n → said ≡ stopped_line
      → Ran Uci moved (held (Some why) text) (MateTold owed limits state.game last reading text (tried.Stopped n why) said)
      → HasCome moved owed owed' state plan text (record { best = Some first; kept = None; why = Some why })
  stopped_comes {owed' = owed'} spends n why decides said_is ran = record {
    ran = record {
      events = ran.events;
      went = ran.went;
      holds = record {
        unstopped = subst (AreUnstopped Uci) (sym ran.holds.events_are) (mate_unstopped reading ran.holds.heard said ran.holds.listens);
        stops = line_stops why n (readings ran.holds.heard) ran.holds.cut;
        answers = λ asked is heard later turn following events_are after stopped follows.
            stopped_answer (Lacks owed (go_bound state asked)) state plan asked is perft last mate first more legal reading ran.holds.heard heard ran.holds.listens later turn following stopped n (cause_of why) decides
            (may_cut (Lacks owed (go_bound state asked))
            (λ few. subst (λ n. Lacks owed n) (sym (mate_go_bound ⊥ state plan asked is perft last mate first more legal))
            (lacks_wider owed (solves_bound state.game.rules last (story state.game)) (mates_bound state.game.rules last (story state.game)) few (solves_few state.game.rules last (story state.game))))
            n why (readings ran.holds.heard) following ran.holds.cut follows)
            (events_are ∙ ap (λ e. (e ++ heard) ++ Says (best_line first) ∷ []) (ran.holds.events_are ∙ ap (mate_events reading ran.holds.heard) said_is)) after;
      };
    };
    spends = few_spent owed' spends;
    printable = tt;
  }

  -- depth 1 was not searched
  unsearched : {moved : Moved} (t : MateAttempt) → IsMate state.game last (answer_seen t) → IsAfter (answer_seen t) → said ≡ mate_said state.game.rules last (answer_seen t)
      → RanPart Uci moved [] (MateTold owed limits state.game last reading text t said) → BrokeGoing moved state plan
  unsearched t m is_after said_is part = record {
    best = Some first;
    kept = None;
    behind = [];
    is_held = none;
    part = record {
      events = part.events;
      front = part.front;
      back = part.back;
      wrote = part.wrote;
      went = part.went;
      holds = record {
        unstopped = subst (AreUnstopped Uci) (sym part.holds.events_are) (mate_unstopped reading part.holds.heard said part.holds.listens);
        answers = λ asked is turn events_are after.
            depth_answer (Unit {0}) state plan asked is perft last mate first more legal reading part.holds.heard [] part.holds.listens tt turn [] (λ h. tt)
            (answer_seen t) m is_after [] (InSearch Interrupted) [] first None []
            (record { valued = tt; ended = (omega arith, (tt, tt)) }) tt refl refl refl
            (events_are ∙ ap (λ e. e ++ Says (best_line first) ∷ []) (part.holds.events_are ∙ ap (mate_events reading part.holds.heard) said_is ∙ sym (append-nil _) ∙ sym (append-nil _))) after;
      };
    };
  }

  -- a front part of what is told of it was written
  pub told_broke : {moved : Moved} (t : MateAttempt) → IsMate state.game last (answer_seen t) → said ≡ mate_said state.game.rules last (answer_seen t)
      → RanPart Uci moved (held (cut_in t) text) (MateTold owed limits state.game last reading text t said)
      → BrokeGoing moved state plan
  told_broke (tried.Shown n s best) m said_is part = record {
    best = Some best;
    kept = Some (record { strategy = s; moves = n });
    behind = [];
    is_held = none;
    part = record {
      events = part.events;
      front = part.front;
      back = part.back;
      wrote = part.wrote;
      went = part.went;
      holds = record {
        unstopped = subst (AreUnstopped Uci) (sym part.holds.events_are) (mate_unstopped reading part.holds.heard said part.holds.listens);
        answers = λ asked is turn events_are after.
            shown_answer (Unit {0}) state plan asked is perft last mate first more legal reading part.holds.heard [] part.holds.listens tt turn [] (λ h. tt) n s best m
            (events_are ∙ ap (λ e. e ++ Says (best_line best) ∷ []) (part.holds.events_are ∙ ap (mate_events reading part.holds.heard) said_is ∙ sym (append-nil _))) after;
      };
    };
  }
  told_broke (tried.Stopped n why) m said_is part = record {
    best = Some first;
    kept = None;
    behind = held (Some why) text;
    is_held = held_cut (Some why) text;
    part = record {
      events = part.events;
      front = part.front;
      back = part.back;
      wrote = part.wrote;
      went = part.went;
      holds = record {
        unstopped = subst (AreUnstopped Uci) (sym part.holds.events_are) (mate_unstopped reading part.holds.heard said part.holds.listens);
        answers = λ asked is turn events_are after.
            stopped_answer (Unit {0}) state plan asked is perft last mate first more legal reading part.holds.heard [] part.holds.listens tt turn (held (Some why) text)
            (λ h. held_stopped (Some why) text (line_stops why n (readings part.holds.heard) part.holds.cut)) n (cause_of why) m
            (may_cut (Unit {0}) (λ few. tt) n why (readings part.holds.heard) (held (Some why) text) part.holds.cut (held_follows (Some why) text))
            (events_are ∙ ap (λ e. e ++ Says (best_line first) ∷ []) (part.holds.events_are ∙ ap (mate_events reading part.holds.heard) said_is ∙ sym (append-nil _))) after;
      };
    };
  }
  told_broke (tried.Unsettled n e) m said_is part = unsearched (tried.Unsettled n e) m tt said_is part
  told_broke tried.NoMate m said_is part = unsearched tried.NoMate m tt said_is part

  -- what was tried ends the search
  pub mate_comes : {moved : Moved} {owed' : Owed} → Spends owed owed' (solves_bound state.game.rules last (story state.game)) → (t : MateAttempt) (came : GoResult) → came_by first t ≡ Some came → IsMate state.game last (answer_seen t)
      → said ≡ mate_said state.game.rules last (answer_seen t)
      → Ran Uci moved (held (cut_in t) text) (MateTold owed limits state.game last reading text t said)
      → HasCome moved owed owed' state plan text came
  mate_comes {moved = moved} {owed' = owed'} spends (tried.Shown n s best) came is m said_is ran =
      let shown : GoResult = record { best = Some best; kept = Some (record { strategy = s; moves = n }); why = None } in
      let same : shown ≡ came = cc in
      subst (HasCome moved owed owed' state plan text) same (shown_comes spends n s best m said_is ran)
  mate_comes {moved = moved} {owed' = owed'} spends (tried.Stopped n why) came is m said_is ran =
      let stopped : GoResult = record { best = Some first; kept = None; why = Some why } in
      let same : stopped ≡ came = cc in
      subst (HasCome moved owed owed' state plan text) same (stopped_comes spends n why m said_is ran)
  mate_comes spends (tried.Unsettled n e) came is m said_is ran = cc
  mate_comes spends tried.NoMate came is m said_is ran = cc

-- or depth 1 is searched after it
pub searched_after : (t : MateAttempt) (first : Move) → came_by first t ≡ None → IsAfter (answer_seen t)
searched_after (tried.Shown n s best) first is = cc
searched_after (tried.Stopped n why) first is = cc
searched_after (tried.Unsettled n e) first is = tt
searched_after tried.NoMate first is = tt

-- no line is held
pub ran_unheld : {moved : Moved} {behind : List Line} {P : List Event → Type 0} → behind ≡ [] → Ran Uci moved behind P → Ran Uci moved [] P
ran_unheld {moved = moved} {P = P} is ran = subst (λ behind. Ran Uci moved behind P) is ran

pub uncut_after : (t : MateAttempt) (first : Move) (text : List ℕ) → came_by first t ≡ None → held (cut_in t) text ≡ []
uncut_after (tried.Shown n s best) first text is = cc
uncut_after (tried.Stopped n why) first text is = cc
uncut_after (tried.Unsettled n e) first text is = refl
uncut_after tried.NoMate first text is = refl

-- depth 1, as the code has it
abbrev pub depth_one : State → GoPlan → Task
depth_one state plan = record { game = state.game; roots = plan.legal; depths = 1; share = None; time = None }

one_is : (state : State) (plan : GoPlan) (asked : Go) → IsPlan state asked plan → depth_one state plan ≡ task_after_mate state
one_is state plan asked is = ap at is.legal_is
  where
    at : List Move → Task
    at roots = record { game = state.game; roots = roots; depths = 1; share = None; time = None }

module _ {S K C : Type 0} {left : S → Option (List ℕ)} {taken : K → Option (List ℕ)} {given : C → Option (List ℕ)} {count last_of : C → ℕ}
    (state : State) (plan : GoPlan) (perft : plan.perft ≡ None) (last : ℕ) (mate : plan.mate ≡ Some last)
    (first : Move) (more : List Move) (legal : plan.legal ≡ first ∷ more) (reading : ℕ) where
  module _ {s s' s'' : S} {k k' k'' : K} {c c' c'' : C} {owed : Owed} (limits : Limits) (text' said : List ℕ) (t : MateAttempt) (m : IsMate state.game last (answer_seen t)) (is_after : IsAfter (answer_seen t))
      (said_is : said ≡ mate_said state.game.rules last (answer_seen t))
      (told : Ran Uci (Moves left taken given count last_of s s' k k' c c') [] (MateTold owed limits state.game last reading text' t said)) where
    -- depth 1 was searched, or cut
    pub after_comes : {owed' owed'' : Owed} → Spends owed owed' (solves_bound state.game.rules last (story state.game)) → (text : List ℕ) (depths : Depths)
        → Deepened Uci style.Uci (Moves left taken given count last_of s' s'' k' k'' c' c'') owed' owed'' (depth_one state plan) (first_of first plan.legal) reading text depths
        → HasCome (Moves left taken given count last_of s s'' k k'' c c'') owed owed'' state plan text (go_result_of depths)
    after_comes {owed' = owed'} {owed'' = owed''} spends text depths d = record {
      ran = record {
        events = told.events ++ d.ran.events;
        went = moves_at (moves_more told.went d.ran.went)
            (ap (λ l. l ++ (heard_lines d.ran.events ++ held depths.why text)) (append-nil (heard_lines told.events))
            ∙ sym (append_assoc (heard_lines told.events) (heard_lines d.ran.events) (held depths.why text))
            ∙ ap (λ l. l ++ held depths.why text) (sym (heard_lines-append told.events d.ran.events)))
            (sym (written-append Uci told.events d.ran.events)) (sym (readings-append told.events d.ran.events));
        holds = record {
          unstopped = unstopped_more Uci told.events d.ran.events
              (subst (AreUnstopped Uci) (sym told.holds.events_are) (mate_unstopped reading told.holds.heard said told.holds.listens)) d.ran.holds.0.unstopped;
          stops = depths_stop _ (depth_one state plan) d.reports d.ending (reading ∷ readings d.ran.events) text depths.why d.ran.holds.1 d.ended;
          answers = λ asked is heard later turn following events_are after stopped follows.
              depth_answer (Lacks owed (go_bound state asked)) state plan asked is perft last mate first more legal reading told.holds.heard heard told.holds.listens later turn following stopped
              (answer_seen t) m is_after d.reports d.ending d.ran.events depths.best (announced_seen depths.kept) (reading ∷ readings d.ran.events)
              (deepens_wider (Lacks owed' (depths_bound state.game.rules 1 (story state.game))) (Lacks owed (go_bound state asked))
              (λ few. subst (λ n. Lacks owed n)
              (both_bounds state.game.rules last (story state.game) ∙ sym (mate_go_bound ⊥ state plan asked is perft last mate first more legal))
              (lacks_before owed owed' (solves_bound state.game.rules last (story state.game)) (depths_bound state.game.rules 1 (story state.game)) spends few))
              Uci (task_after_mate state) d.reports d.ending (reading ∷ readings d.ran.events) following
              (subst (λ t. Deepens Uci (Lacks owed' (depths_bound state.game.rules 1 (story state.game))) t d.reports d.ending (reading ∷ readings d.ran.events) following)
              (one_is state plan asked is) (d.ran.holds.1 following follows)))
              d.ran.holds.0.unstopped d.ran.holds.0.lines_are
              (d.best_is ∙ ap (λ l. last_best (first_of first l) (reported d.reports d.ending)) legal) d.kept_is
              (events_are ∙ ap (λ e. ((e ++ d.ran.events) ++ heard) ++ Says (best_line depths.best) ∷ []) (told.holds.events_are ∙ ap (mate_events reading told.holds.heard) said_is)) after;
        };
      };
      spends = λ asked is.
          subst (λ n. Spends owed owed'' n)
          (both_bounds state.game.rules last (story state.game) ∙ sym (mate_go_bound ⊥ state plan asked is perft last mate first more legal))
          (spends_more owed owed' owed'' (solves_bound state.game.rules last (story state.game)) (depths_bound state.game.rules 1 (story state.game)) spends d.spends);
      printable =
          printable_of state.game.rules depths.kept (last_announced None (reported d.reports d.ending)) d.kept_is
          (deepens_kept _ (depth_one state plan) d.reports d.ending _ (held depths.why text) (d.ran.holds.1 (held depths.why text) (held_follows depths.why text)));
    }

    -- a fault came in it
    pub after_broke : BrokeOff Uci style.Uci (Moves left taken given count last_of s' s'' k' k'' c' c'') (depth_one state plan) reading
        → BrokeGoing (Moves left taken given count last_of s s'' k k'' c c'') state plan
    after_broke b = record {
      best = Some (last_best first (reported b.reports b.ending));
      kept = last_announced None (reported b.reports b.ending);
      behind = b.behind;
      is_held = b.is_held;
      part = part_more Uci (Completes state plan (Some (last_best first (reported b.reports b.ending))) (last_announced None (reported b.reports b.ending)) b.behind)
          (λ (x : List Event) (y : List Event) (p : MateTold owed limits state.game last reading text' t said x)
          (q : Tells Uci style.Uci state.game.rules reading 1 (reported b.reports b.ending) y × Deepens Uci (Unit {0}) (depth_one state plan) b.reports b.ending (reading ∷ readings y) b.behind). record {
            unstopped = unstopped_more Uci x y (subst (AreUnstopped Uci) (sym p.events_are) (mate_unstopped reading p.heard said p.listens)) q.0.unstopped;
            answers = λ asked is turn events_are after.
                depth_answer (Unit {0}) state plan asked is perft last mate first more legal reading p.heard [] p.listens tt turn b.behind (λ h. b.stopped)
                (answer_seen t) m is_after b.reports b.ending y (last_best first (reported b.reports b.ending)) (last_announced None (reported b.reports b.ending)) (reading ∷ readings y)
                (subst (λ t. Deepens Uci (Unit {0}) t b.reports b.ending (reading ∷ readings y) b.behind) (one_is state plan asked is) q.1)
                q.0.unstopped q.0.lines_are refl refl
                (events_are ∙ ap (λ e. e ++ Says (best_line (last_best first (reported b.reports b.ending))) ∷ [])
                (ap (λ e. e ++ y) (p.events_are ∙ ap (mate_events reading p.heard) said_is) ∙ sym (append-nil _))) after;
          }) told (record {
            events = b.broke.events;
            front = b.broke.front;
            back = b.broke.back;
            wrote = b.broke.wrote;
            went = b.broke.went;
            holds = b.broke.holds;
          });
    }

  -- a fault came while a mate was looked for: it is as if that was cut by the end of the lines
  pub trying_broke : {s s' : S} {k k' : K} {c c' c'' : C} → Moves left taken given count last_of s s k k c c' [] [] (reading ∷ [])
      → BrokeTrying Uci (Moves left taken given count last_of s s' k k' c' c'') state.game last
      → BrokeGoing (Moves left taken given count last_of s s' k k' c c'') state plan
  trying_broke start b = record {
    best = Some first;
    kept = None;
    behind = [];
    is_held = none;
    part = part_then Uci (Completes state plan (Some first) None []) stopped_line
        (λ a p. record {
          unstopped = subst (λ e. AreUnstopped Uci (e ++ Says stopped_line ∷ [])) (sym p.1) (mate_unstopped reading p.0 stopped_line p.2);
          answers = λ asked is turn events_are after.
              stopped_answer (Unit {0}) state plan asked is perft last mate first more legal reading p.0 [] p.2 tt turn [] (λ h. tt) b.moves Interrupted b.decides (tt, tt)
              (events_are ∙ ap (λ e. e ++ Says (best_line first) ∷ []) (ap (λ e. e ++ Says stopped_line ∷ []) p.1 ∙ sym (append-nil _))) after;
        })
        (read_part (λ events. (heard : List Event) × (events ≡ Reads reading ∷ heard) × Listens Uci heard) (λ events h. (events, refl, h)) start (part_of_broke Uci b.broke));
  }

-- ---- what was tried

pub tried_at : {moved : Moved} {owed owed' : Owed} {limits : Limits} {last : ℕ} {text : List ℕ} {t : MateAttempt} (g g' : Played) → g ≡ g'
    → IsTried Uci moved owed owed' limits g last text t → IsTried Uci moved owed owed' limits g' last text t
tried_at {moved = moved} {owed = owed} {owed' = owed'} {limits = limits} {last = last} {text = text} {t = t} g g' same h =
    subst (λ g. IsTried Uci moved owed owed' limits g last text t) same h

pub trying_at : {moved : Moved} {last : ℕ} (g g' : Played) → g ≡ g' → BrokeTrying Uci moved g last → BrokeTrying Uci moved g' last
trying_at {moved = moved} {last = last} g g' same h = subst (λ g. BrokeTrying Uci moved g last) same h

module _ {S K C : Type 0} {left : S → Option (List ℕ)} {taken : K → Option (List ℕ)} {given : C → Option (List ℕ)} {count last_of : C → ℕ}
    {s s' : S} {k k' : K} {c c' c'' : C} {owed owed' : Owed} (limits : Limits) (g : Played) (last reading : ℕ) (text : List ℕ) (t : MateAttempt)
    (start : Moves left taken given count last_of s s k k c c' [] [] (reading ∷ []))
    (h : IsTried Uci (Moves left taken given count last_of s s' k k' c' c'') owed owed' limits g last text t) where
  tried_heard : Ran Uci (Moves left taken given count last_of s s' k k' c c'') (held (cut_in t) text)
      (λ events. (heard : List Event) × (events ≡ Reads reading ∷ heard) × Listens Uci heard × IsCutBy Uci owed limits g last (readings heard) text t)
  tried_heard =
      read_then (λ events. (heard : List Event) × (events ≡ Reads reading ∷ heard) × Listens Uci heard × IsCutBy Uci owed limits g last (readings heard) text t)
      (λ events p. (events, refl, p.0, p.1)) start h.ran

  -- and what is told of it
  pub tried_told : {k'' : K} (said : List ℕ) → Appends (taken k') (taken k'') said
      → Ran Uci (Moves left taken given count last_of s s' k k'' c c'') (held (cut_in t) text) (MateTold owed limits g last reading text t said)
  tried_told said app =
      ran_say Uci (MateTold owed limits g last reading text t said) said (told_mate owed limits g last reading text t said) tried_heard app

  pub tried_part : {k'' : K} (said : List ℕ) → AppendsFront (taken k') (taken k'') said
      → RanPart Uci (Moves left taken given count last_of s s' k k'' c c'') (held (cut_in t) text) (MateTold owed limits g last reading text t said)
  tried_part said app =
      broke_say Uci (MateTold owed limits g last reading text t said) said (told_mate owed limits g last reading text t said) tried_heard app

  pub tried_unsaid : (said : List ℕ)
      → RanPart Uci (Moves left taken given count last_of s s' k k' c c'') (held (cut_in t) text) (MateTold owed limits g last reading text t said)
  tried_unsaid said =
      unsaid Uci (MateTold owed limits g last reading text t said) said (told_mate owed limits g last reading text t said) tried_heard
