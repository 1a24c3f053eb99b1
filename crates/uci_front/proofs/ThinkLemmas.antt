-- What one depth after another, and mates that are looked for, come to as answers to `go`.
use Rattle.std.proofs.Common.{◌≡◌, ◌∙◌, ◌≤◌, ◌<◌, ℕ, ◌+◌, List, [], ◌∷◌, ◌++◌, length, true, Option, Some, None, refl, sym, ap, subst, arith, eq-eqb, eqb-true}
use Rattle.std.specs.Prelude.{All, ◌==◌}
use Rattle.std.specs.Option.{option_map}
use Rattle.foundation.specs.Member.{Member}
use Rattle.std.proofs.lemmas.List.{append-nil}
use Rattle.io_ports.proofs.Moved.{appends_none, moves_at, moves_more, moves_none, takes_none}
use Rattle.io_ports.proofs.Owing.{spends_none}
use Rattle.io_ports.specs.Clock.{GivesReadings, count_after}
use Rattle.io_ports.specs.declared.dialect.Dialect.TheVariants.{Uci}
use Rattle.io_ports.specs.Heard.{stops}
use Rattle.io_ports.specs.Lines.{Line, Text}
use Rattle.io_ports.specs.Owing.{Lacks, Spends}
use Rattle.io_ports.specs.Source.{Owed}
use Rattle.io_ports.specs.Trace.{Moves}
use Rattle.game_play.specs.Played.{Played, legal_in, story}
use Rattle.evaluation.specs.Bounds.{depths_bound}
use Rattle.rules_model.specs.declared.moves.Move.{Move}
use Rattle.rules_model.specs.declared.rules.Rules.{Rules}
use Rattle.session_model.proofs.Lists.{roots_legal, roots_some}
use Rattle.session_model.specs.Events.{IsStopped}
use Rattle.session_model.specs.Mates.{Announced, mover}
use Rattle.session_model.specs.Thinking.{Task, Report, Ending, Whole, InSearch, InSolve, Deepens, MayCut, MayEnd, last_announced, last_best, reported, searches_upto, solve_within}
use Rattle.session_model.specs.Turns.{Turn}
use Rattle.session_model.specs.UciGo.{Go, is_held, last_depth, last_mate, roots_of}
use Rattle.session_model.specs.UciSession.{Goes, GoesNowhere, announced, first_of, go_bound, task_of}
use Rattle.session_model.specs.UciState.{State}
use Rattle.session_model.specs.UciTexts.{best_line}
use Rattle.thinking.specs.Cuts.{IsEndedBy}
use Rattle.thinking.specs.declared.deepening.Depths.{Depths}
use Rattle.thinking.specs.declared.depth_result.AnnouncedMate.{AnnouncedMate}
use Rattle.thinking.specs.declared.style.Style.TheVariants as style
use Rattle.thinking.specs.Depths.{BrokeOff, Deepened}
use Rattle.thinking.specs.Tells.{Tells}
use Rattle.thinking.specs.declared.task.Task.{Task as Lent}
use Rattle.thinking.specs.Views.{IsTask, announced_seen}
use Rattle.session_model.specs.Lines.{Follows}
use Rattle.session_model.specs.Turned.{RanPart}
use Rattle.uci_front.specs.declared.plan.GoPlan.{GoPlan}
use Rattle.uci_front.specs.declared.searching.GoResult.{GoResult}
use Rattle.uci_front.specs.Searched.{BrokeGoing, Completes, Gone, HasCome}
use Rattle.uci_front.specs.PlanView.{IsPlan, plan_task}
use Rattle.uci_front.specs.SessionView.{IsPrintable}
use Rattle.uci_front.proofs.HeldLemmas.{held_follows}
use Rattle.uci_front.proofs.SearchLemmas.{AreKept, all_of, bound_depths, bound_nowhere, deepens_kept, goes_depths, goes_nowhere, listens_said, listens_unstopped, searches_of}
use Rattle.watching.specs.declared.halt.Cut.{Cut}
use Rattle.watching.specs.declared.halt.Cut.TheVariants as cut
use Rattle.watching.specs.Events.{Event, Says, Reads, Listens, readings}
use Rattle.watching.specs.Looks.{Moved, Ran, held}

-- ---- the first reading

module _ {S K C : Type 0} {left : S → Option (List ℕ)} {taken : K → Option (List ℕ)} {given : C → Option (List ℕ)} {count last : C → ℕ} where
  pub clock_read : (s : S) (k : K) {c c' : C} (first : ℕ) → GivesReadings (count c') (given c) (given c') (first ∷ [])
      → count c' ≡ count_after (count c) (first ∷ []) → last c' ≡ first
      → Moves left taken given count last s s k k c c' [] [] (first ∷ [])
  clock_read s k first gives counted read =
      record { took = takes_none (left s); wrote = appends_none (taken k); clocked = gives; counted = counted; read = read }

  -- what goes on after it
  pub read_then : {s s' : S} {k k' : K} {c c' c'' : C} {first : ℕ} {behind : List Line} {P : List Event → Type 0} (R : List Event → Type 0)
      → ((events : List Event) → P events → R (Reads first ∷ events))
      → Moves left taken given count last s s k k c c' [] [] (first ∷ [])
      → Ran Uci (Moves left taken given count last s s' k k' c' c'') behind P
      → Ran Uci (Moves left taken given count last s s' k k' c c'') behind R
  read_then {first = first} R f start a = record {
    events = Reads first ∷ a.events;
    went = moves_at (moves_more start a.went) refl refl refl;
    holds = f a.events a.holds;
  }

  pub read_part : {s s' : S} {k k' : K} {c c' c'' : C} {first : ℕ} {behind : List Line} {P : List Event → Type 0} (R : List Event → Type 0)
      → ((events : List Event) → P events → R (Reads first ∷ events))
      → Moves left taken given count last s s k k c c' [] [] (first ∷ [])
      → RanPart Uci (Moves left taken given count last s s' k k' c' c'') behind P
      → RanPart Uci (Moves left taken given count last s s' k k' c c'') behind R
  read_part {first = first} R f start a = record {
    events = Reads first ∷ a.events;
    front = a.front;
    back = a.back;
    wrote = a.wrote;
    went = moves_at (moves_more start a.went) refl refl refl;
    holds = f a.events a.holds;
  }

-- ---- what is asked

pub task_is : (state : State) (plan : GoPlan) (asked : Go) → IsPlan state asked plan → plan_task state plan ≡ task_of state asked
task_is state plan asked is =
    ap (λ roots. at roots plan.depths plan.share plan.time) is.roots_are
    ∙ ap (λ depths. at (task_of state asked).roots depths plan.share plan.time) is.depths_is
    ∙ ap (λ share. at (task_of state asked).roots (last_depth asked) share plan.time) is.share_is
    ∙ ap (λ time. at (task_of state asked).roots (last_depth asked) (task_of state asked).share time) is.time_is
  where
    at : List Move → ℕ → Option ℕ → Option ℕ → Task
    at roots depths share time = record { game = state.game; roots = roots; depths = depths; share = share; time = time }

-- `mate` is not asked
pub mate_none : (plan : GoPlan) (asked : Go) (state : State) → IsPlan state asked plan → plan.mate ≡ None → None ≡ asked.mate
mate_none plan asked state is unasked = by_mate asked.mate (sym unasked ∙ is.mate_is)
  where
    by_mate : (o : Option ℕ) → None ≡ option_map last_mate o → None ≡ o
    by_mate None h = refl
    by_mate (Some n) h = cc

-- or it is, within a number that comes to the last one
pub mate_some : (plan : GoPlan) (asked : Go) (state : State) (last : ℕ) → IsPlan state asked plan → plan.mate ≡ Some last
    → (n : ℕ) × (Some n ≡ asked.mate) × (last_mate n ≡ last)
mate_some plan asked state last is some = by_mate asked.mate (sym some ∙ is.mate_is)
  where
    by_mate : (o : Option ℕ) → Some last ≡ option_map last_mate o → (n : ℕ) × (Some n ≡ o) × (last_mate n ≡ last)
    by_mate None h = cc
    by_mate (Some n) h = let same : last_mate n ≡ last = cc in (n, refl, same)

pub perft_none : (plan : GoPlan) (asked : Go) (state : State) → IsPlan state asked plan → plan.perft ≡ None → None ≡ asked.perft
perft_none plan asked state is unasked = sym unasked ∙ is.perft_is

-- ---- a line that cut a search stops it

stops_by_end : (A : Type 0) (t : Task) (done : ℕ) (taken text : List ℕ) (ending : Ending) → IsEndedBy (Some cut.Line) ending
    → MayEnd Uci A t done taken (Text text ∷ []) ending → stops Uci (Text text) ≡ true
stops_by_end A t done taken text Whole ended h = absurd ended
stops_by_end A t done taken text (InSearch cause) ended h =
    (subst (λ c. MayCut Uci A t.share t.time (searches_upto t (done + 1)) taken (Text text ∷ []) c) ended h.1).1
stops_by_end A t done taken text (InSolve report n cause) ended h =
    (subst (λ c. MayCut Uci A t.share t.time (searches_upto t (done + 1) + solve_within t n) taken (Text text ∷ []) c) ended h.2).1

pub depths_stop : (A : Type 0) (t : Task) (reports : List Report) (ending : Ending) (taken text : List ℕ) (why : Option Cut)
    → ((following : List Line) → Follows why text following → Deepens Uci A t reports ending taken following)
    → IsEndedBy why ending → why ≡ Some cut.Line → stops Uci (Text text) ≡ true
depths_stop A t reports ending taken text why deepens ended is =
    stops_by_end A t (length reports) taken text ending (subst (λ w. IsEndedBy w ending) is ended)
    (deepens (Text text ∷ []) (subst (λ w. Follows w text (Text text ∷ [])) (sym is) ([], refl))).ended

-- ---- printable

pub printable_of : (rules : Rules) (kept : Option AnnouncedMate) (a : Option Announced) → announced_seen kept ≡ a → AreKept rules a → IsPrintable rules kept
printable_of rules kept a is h = by_kept kept (subst (AreKept rules) (sym is) h)
  where
    by_kept : (kept : Option AnnouncedMate) → AreKept rules (announced_seen kept) → IsPrintable rules kept
    by_kept None h = tt
    by_kept (Some kept) h = (h.least, h.most, h.sound)

-- ---- depth after depth

abbrev pub go_result_of : Depths → GoResult
go_result_of depths = record { best = Some depths.best; kept = depths.kept; why = depths.why }

module _ (A : Type 0) (state : State) (plan : GoPlan) (asked : Go) (is : IsPlan state asked plan) (perft : plan.perft ≡ None) (mate : plan.mate ≡ None)
    (first : Move) (more : List Move) (legal : plan.legal ≡ first ∷ more) where
  depths_answer : (reading : ℕ) (reports : List Report) (ending : Ending) (events heard : List Event) (best : Move) (kept : Option Announced)
      (turn : Turn State) (following : List Line)
      → Deepens Uci A (plan_task state plan) reports ending (reading ∷ readings events) following
      → Tells Uci style.Uci state.game.rules reading 1 (reported reports ending) events → Listens Uci heard
      → best ≡ last_best (first_of first plan.roots.items) (reported reports ending) → kept ≡ last_announced None (reported reports ending)
      → turn.events ≡ ((Reads reading ∷ events) ++ heard) ++ Says (best_line best) ∷ [] → turn.after ≡ announced state kept
      → (is_held asked (mover state.game) ≡ true → IsStopped Uci following)
      → Goes A state asked turn following
  depths_answer reading reports ending events heard best kept turn following deepens tells listens best_is kept_is events_are after stopped =
      goes_depths A state asked turn following (perft_none plan asked state is perft) first more (sym is.legal_is ∙ legal) (mate_none plan asked state is mate)
      (searches_of A state asked (task_of state asked) (first_of first (task_of state asked).roots) reading reports ending (Reads reading ∷ events) heard
      (readings events) [] best kept turn following
      (subst (λ t. Deepens Uci A t reports ending (reading ∷ readings events) following) (task_is state plan asked is) deepens)
      refl (tt, tells.unstopped) listens tells.lines_are
      (best_is ∙ ap (λ roots. last_best (first_of first roots) (reported reports ending)) is.roots_are) kept_is events_are after stopped)

  depths_go_bound : go_bound state asked ≡ depths_bound state.game.rules plan.depths (story state.game)
  depths_go_bound =
      bound_depths state asked (perft_none plan asked state is perft) first more (sym is.legal_is ∙ legal) (mate_none plan asked state is mate)
      ∙ ap (λ d. depths_bound state.game.rules d (story state.game)) (sym is.depths_is)

module _ {S K C : Type 0} {left : S → Option (List ℕ)} {taken : K → Option (List ℕ)} {given : C → Option (List ℕ)} {count last : C → ℕ}
    (state : State) (plan : GoPlan) (perft : plan.perft ≡ None) (mate : plan.mate ≡ None)
    (first : Move) (more : List Move) (legal : plan.legal ≡ first ∷ more) {s s' : S} {k k' : K} {c c' c'' : C} (reading : ℕ)
    (start : Moves left taken given count last s s k k c c' [] [] (reading ∷ [])) where
  -- all depths were done, or one was cut
  pub depths_come : {owed owed' : Owed} (text : List ℕ) (depths : Depths)
      → Deepened Uci style.Uci (Moves left taken given count last s s' k k' c' c'') owed owed' (plan_task state plan) (first_of first plan.roots.items) reading text depths
      → HasCome (Moves left taken given count last s s' k k' c c'') owed owed' state plan text (go_result_of depths)
  depths_come {owed = owed} {owed' = owed'} text depths d = record {
    ran = read_then (Gone owed state plan (go_result_of depths) text) (λ events holds. record {
      unstopped = (tt, holds.0.unstopped);
      stops = depths_stop _ (plan_task state plan) d.reports d.ending (reading ∷ readings events) text depths.why holds.1 d.ended;
      answers = λ asked is heard listens turn following events_are after stopped follows.
          depths_answer (Lacks owed (go_bound state asked)) state plan asked is perft mate first more legal reading d.reports d.ending events heard depths.best (announced_seen depths.kept) turn following
          (subst (λ n. Deepens Uci (Lacks owed n) (plan_task state plan) d.reports d.ending (reading ∷ readings events) following)
          (sym (depths_go_bound ⊥ state plan asked is perft mate first more legal)) (holds.1 following follows))
          holds.0 listens d.best_is d.kept_is events_are after stopped;
    }) start d.ran;
    spends = λ asked is. subst (λ n. Spends owed owed' n) (sym (depths_go_bound ⊥ state plan asked is perft mate first more legal)) d.spends;
    printable =
        printable_of state.game.rules depths.kept (last_announced None (reported d.reports d.ending)) d.kept_is
        (deepens_kept _ (plan_task state plan) d.reports d.ending _ (held depths.why text) (d.ran.holds.1 (held depths.why text) (held_follows depths.why text)));
  }

  -- a fault came
  pub depths_broke : BrokeOff Uci style.Uci (Moves left taken given count last s s' k k' c' c'') (plan_task state plan) reading
      → BrokeGoing (Moves left taken given count last s s' k k' c c'') state plan
  depths_broke b = record {
    best = Some (last_best (first_of first plan.roots.items) (reported b.reports b.ending));
    kept = last_announced None (reported b.reports b.ending);
    behind = b.behind;
    is_held = b.is_held;
    part = read_part {P = λ events. Tells Uci style.Uci state.game.rules reading 1 (reported b.reports b.ending) events × Deepens Uci (Unit {0}) (plan_task state plan) b.reports b.ending (reading ∷ readings events) b.behind}
        (Completes state plan (Some (last_best (first_of first plan.roots.items) (reported b.reports b.ending))) (last_announced None (reported b.reports b.ending)) b.behind) (λ events holds. record {
          unstopped = (tt, holds.0.unstopped);
          answers = λ asked is turn events_are after.
              depths_answer (Unit {0}) state plan asked is perft mate first more legal reading b.reports b.ending events []
              (last_best (first_of first plan.roots.items) (reported b.reports b.ending)) (last_announced None (reported b.reports b.ending)) turn b.behind
              holds.1 holds.0 tt refl refl
              (events_are ∙ ap (λ e. e ++ Says (best_line (last_best (first_of first plan.roots.items) (reported b.reports b.ending))) ∷ []) (sym (append-nil (Reads reading ∷ events)))) after (λ held. b.stopped);
        }) start (record {
          events = b.broke.events;
          front = b.broke.front;
          back = b.broke.back;
          wrote = b.broke.wrote;
          went = b.broke.went;
          holds = b.broke.holds;
        });
  }

-- where no move is legal, nothing is told before the best move is
module _ {S K C : Type 0} {left : S → Option (List ℕ)} {taken : K → Option (List ℕ)} {given : C → Option (List ℕ)} {count last : C → ℕ} where
  pub nowhere_comes : (s : S) (k : K) (c : C) (owed : Owed) (state : State) (plan : GoPlan) (text : List ℕ) → plan.perft ≡ None
      → plan.legal ≡ [] → (plan.legal ≡ [] → plan.holds ≡ true)
      → HasCome (Moves left taken given count last s s k k c c) owed owed state plan text (record { best = None; kept = None; why = None })
  nowhere_comes s k c owed state plan text perft stuck holds = record {
    ran = record {
      events = [];
      went = moves_none s k c;
      holds = record {
        unstopped = tt;
        stops = λ h. cc;
        answers = λ asked is heard listens turn following events_are after stopped follows.
            let held : is_held asked (mover state.game) ≡ true = sym is.held_is ∙ holds stuck in
            goes_nowhere (Lacks owed (go_bound state asked)) state asked turn following (perft_none plan asked state is perft) (sym is.legal_is ∙ stuck)
            (subst (λ b. GoesNowhere b state turn following) (sym held) (record {
              before = heard;
              events_are = events_are;
              unstopped = listens_unstopped heard listens;
              lines_are = listens_said heard listens;
              stopped = stopped held;
              after_is = after;
            }));
      };
    };
    spends = λ asked is.
        subst (λ n. Spends owed owed n) (sym (bound_nowhere state asked (perft_none plan asked state is perft) (sym is.legal_is ∙ stuck))) (spends_none owed 0);
    printable = tt;
  }

-- ---- the code's task

pub deepened_at : {moved : Moved} {owed owed' : Owed} (first : Move) (reading : ℕ) (text : List ℕ) (depths : Depths) (t t' : Task) → t ≡ t'
    → Deepened Uci style.Uci moved owed owed' t (first_of first t.roots) reading text depths
    → Deepened Uci style.Uci moved owed owed' t' (first_of first t'.roots) reading text depths
deepened_at {moved = moved} {owed = owed} {owed' = owed'} first reading text depths t t' same d =
    subst (λ (t : Task). Deepened Uci style.Uci moved owed owed' t (first_of first t.roots) reading text depths) same d

pub broke_at : {moved : Moved} (reading : ℕ) (t t' : Task) → t ≡ t' → BrokeOff Uci style.Uci moved t reading → BrokeOff Uci style.Uci moved t' reading
broke_at {moved = moved} reading t t' same b = subst (λ (t : Task). BrokeOff Uci style.Uci moved t reading) same b

pub task_at : (state : State) (g : Played) (roots roots' : List Move) (depths : ℕ) (share time : Option ℕ) → g ≡ state.game → roots ≡ roots'
    → ◌≡◌ {A = Task} (record { game = g; roots = roots; depths = depths; share = share; time = time })
    (record { game = state.game; roots = roots'; depths = depths; share = share; time = time })
task_at state g roots roots' depths share time game_is roots_are = ap (λ g. at g roots) game_is ∙ ap (λ r. at state.game r) roots_are
  where
    at : Played → List Move → Task
    at g roots = record { game = g; roots = roots; depths = depths; share = share; time = time }

-- a list that is not empty begins
pub begins : (xs : List Move) → 0 < length xs → (m : Move) × (ms : List Move) × (xs ≡ m ∷ ms)
begins [] some = absurd (omega arith)
begins (m ∷ ms) some = (m, ms, refl)

-- what is searched can be
pub ready : (state : State) (plan : GoPlan) (asked : Go) → IsPlan state asked plan → 0 < length plan.legal → (g : Played) → g ≡ state.game
    → (roots : List Move) → roots ≡ plan.roots.items → (a b : ℕ) → a ≡ length plan.roots.items → b ≡ length plan.legal
    → All (λ m. Member m (legal_in g)) roots × (0 < length roots) × ((a == b) ≡ (length roots == length (legal_in g)))
    × (1 ≤ plan.depths) × (plan.depths ≤ 64)
ready state plan asked is some g game_is roots roots_is a b a_is b_is =
    let (first, more, legal) = begins plan.legal some in
    let roots_are : roots ≡ roots_of asked plan.legal = roots_is ∙ is.roots_are ∙ ap (roots_of asked) (sym is.legal_is) in
    let legal_are : plan.legal ≡ legal_in g = is.legal_is ∙ ap legal_in (sym game_is) in
    let depths : plan.depths ≡ last_depth asked = is.depths_is in (
      subst (λ l. All (λ m. Member m l) roots) legal_are
          (all_of (λ m. Member m plan.legal) roots (λ m member. roots_legal asked plan.legal m (subst (λ r. Member m r) roots_are member))),
      subst (λ r. 0 < length r) (sym roots_are) (subst (λ l. 0 < length (roots_of asked l)) (sym legal) (roots_some asked first more)),
      ap (λ n. n == b) (a_is ∙ ap length (sym roots_is)) ∙ ap (λ n. length roots == n) (b_is ∙ ap length legal_are),
      omega arith,
      omega arith,
    )

-- all legal moves can be
pub ready_one : (legal : List Move) (g : Played) → legal ≡ legal_in g → (roots : List Move) → roots ≡ legal → 0 < length legal
    → All (λ m. Member m (legal_in g)) roots × (0 < length roots) × (true ≡ (length roots == length (legal_in g)))
ready_one legal g legal_is roots roots_is some = (
  subst (λ l. All (λ m. Member m l) roots) (roots_is ∙ legal_is) (all_of (λ m. Member m roots) roots (λ m member. member)),
  subst (λ r. 0 < length r) (sym roots_is) some,
  sym (ap (λ r. length roots == length r) (sym (roots_is ∙ legal_is)) ∙ eq-eqb (length roots) (length roots) refl),
)

-- `mate` has from 1 to 100 moves
pub mate_range : (plan : GoPlan) (asked : Go) (state : State) (last : ℕ) → IsPlan state asked plan → plan.mate ≡ Some last → (1 ≤ last) × (last ≤ 100)
mate_range plan asked state last is some =
    let (n, asks, same) = mate_some plan asked state last is some in (omega (arith, same), omega (arith, same))

-- the same with the plan that the code has open
pub task_of_plan : (state : State) (g : Played) (roots : List Move) (p plan : GoPlan) → g ≡ state.game → roots ≡ p.roots.items → p ≡ plan
    → ◌≡◌ {A = Task} (record { game = g; roots = roots; depths = p.depths; share = p.share; time = p.time }) (plan_task state plan)
task_of_plan state g roots p plan game_is roots_are plan_is =
    task_at state g roots p.roots.items p.depths p.share p.time game_is roots_are ∙ ap (plan_task state) plan_is

pub as_task : (t : Lent) → All (λ m. Member m (legal_in t.game.now)) t.roots.now → 0 < length t.roots.now
    → t.all ≡ (length t.roots.now == length (legal_in t.game.now)) → 1 ≤ t.depths → t.depths ≤ 64 → IsTask t
as_task t legal some all least most = record { legal = legal; some = some; all = all; least = least; most = most }

-- a list without elements is empty
pub empty_by : (xs : List Move) (len : ℕ) → len ≡ length xs → (len == 0) ≡ true → xs ≡ []
empty_by [] len is none_there = refl
empty_by (x ∷ xs) len is none_there = let zero_is = eqb-true len 0 none_there in absurd (omega (arith, zero_is, is))
