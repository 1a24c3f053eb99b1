-- A search of depth after depth as a session has it.
use Rattle.std.proofs.Common.{◌≡◌, ◌∙◌, ℕ, zero, suc, ◌+◌, ◌<◌, ◌≤◌, List, [], ◌∷◌, ◌++◌, length, Option, Some, None, Result, Ok, Err, IfOk, IsErrOf, OnErr, Bool, true, false, ◌==◌, inl, inr, refl, sym, ap, subst, arith, if◌then◌else◌}
use Rattle.std.specs.Prelude.{is_some}
use Rattle.std.proofs.lemmas.Bool.{eq-eqb}
use Rattle.std.specs.List.{All, slice_index_or}
use Rattle.foundation.specs.Member.{Member}
use Rattle.io_ports.specs.Clock.{GivesReadings, count_after}
use Rattle.io_ports.specs.declared.dialect.Dialect.TheVariants.{Cecp}
use Rattle.io_ports.specs.Lines.{Line}
use Rattle.io_ports.specs.Owing.{Lacks}
use Rattle.io_ports.specs.Source.{Owed}
use Rattle.io_ports.specs.Trace.{Moves}
use Rattle.io_ports.proofs.Moved.{moves_clock, moves_more, moves_none}
use Rattle.io_ports.specs.declared.limits.SearchFault.{SearchFault}
use Rattle.rules_model.specs.declared.board.Position.{Position}
use Rattle.rules_model.specs.declared.moves.Move.{Move}
use Rattle.rules_model.specs.Legal.{legal}
use Rattle.rules_model.specs.Repeats.{repeat_of}
use Rattle.rules_model.specs.declared.rules.Rules.{Rules}
use Rattle.game_play.specs.Played.{Played, legal_in, story}
use Rattle.strategy.specs.declared.nodes.Strategy.{Strategy}
use Rattle.watching.specs.Events.{Event, Reads, readings}
use Rattle.watching.specs.Looks.{held}
use Rattle.session_model.proofs.Shown.{roots_of_shown}
use Rattle.session_model.specs.CecpSession.{Posts, bound_from, depth_for, lowered, task_of, time_for}
use Rattle.session_model.specs.CecpState.{State}
use Rattle.session_model.specs.Events.{after_reading, clocked}
use Rattle.session_model.specs.Mates.{Evidence, IsShown, mover, root_move}
use Rattle.session_model.specs.Thinking.{Task, Report, Score, Points, Mates, Mated, Ending, Whole, InSearch, InSolve, Interrupted, AreReports, Deepens, IsScore, MayEnd, last_best, open_report, reported}
use Rattle.session_model.specs.UciSession.{first_of}
use Rattle.thinking.specs.Depths.{BrokeOff, Deepened}
use Rattle.thinking.specs.Tells.{Tells}
use Rattle.thinking.specs.declared.deepening.Depths.{Depths}
use Rattle.thinking.specs.declared.style.Style.{Style}
use Rattle.session_model.specs.Lines.{none}
use Rattle.cecp_front.specs.Thought.{BrokeSeeking, IsFirst, Sought, style_of}
use Rattle.cecp_front.proofs.ThoughtLaws.{follows_held}

-- ---- errors

pub on_error : {A E P : Type 0} (r : Result A E) → P → OnErr r P
on_error (Ok x) h = tt
on_error (Err why) h = h

pub on_errors : {A E P : Type 0} (r : Result A E) → ((why : E) → IsErrOf r why → P) → OnErr r P
on_errors (Ok x) h = tt
on_errors (Err why) h = h why refl

-- ---- the task

index_member : {X : Type 0} (xs : List X) (k : ℕ) (d : X) → k < length xs → Member (slice_index_or xs k d) xs
index_member [] k d below = absurd (omega arith)
index_member (x ∷ xs) zero d below = inl refl
index_member (x ∷ xs) (suc k) d below = inr (index_member xs k d (omega arith))

-- what is in another list that is the same
pub all_members : {X : Type 0} (xs ys : List X) → xs ≡ ys → All (λ x. Member x ys) xs
all_members xs ys same = subst (λ (zs : List _). All (λ x. Member x zs) xs) same (λ k d below. index_member xs k d below)

pub some_first : (xs ys : List Move) (first : Move) (more : List Move) → xs ≡ ys → ys ≡ first ∷ more → 0 < length xs
some_first xs ys first more same is = let count : length xs ≡ length (first ∷ more) = ap length (same ∙ is) in omega (arith, count)

same_count : (n : ℕ) → true ≡ (n == n)
same_count n = sym (eq-eqb n n refl)

pub counts_same : (xs ys : List Move) → xs ≡ ys → true ≡ (length xs == length ys)
counts_same xs ys same = same_count (length xs) ∙ ap (λ zs. length xs == length zs) same

pub depth_least : (timed : Bool) (sd : Option ℕ) → 1 ≤ lowered (if timed then 64 else 4) sd
depth_least true None = omega arith
depth_least true (Some sd) = omega arith
depth_least false None = omega arith
depth_least false (Some sd) = omega arith

pub depth_most : (timed : Bool) (sd : Option ℕ) → lowered (if timed then 64 else 4) sd ≤ 64
depth_most true None = omega arith
depth_most true (Some sd) = omega arith
depth_most false None = omega arith
depth_most false (Some sd) = omega arith

pub task_is : (state : State) (game : Played) (roots : List Move) (depths : ℕ) (time : Option ℕ) → game ≡ state.game
    → roots ≡ legal_in state.game → time ≡ time_for state → depths ≡ depth_for state
    → ◌≡◌ {A = Task} (record { game = game; roots = roots; depths = depths; share = None; time = time }) (task_of state)
task_is state game roots depths time same legal timed deep = rw (same, legal, timed, deep) refl

-- ---- legal moves

module _ (t : Task) (first : Move) (more : List Move) (all : t.roots ≡ legal_in t.game) (legal : legal_in t.game ≡ first ∷ more) where
  root_legal : (m : Move) → Member m t.roots → Member m (legal_in t.game)
  root_legal m h = subst (λ (ms : List Move). Member m ms) all h

  shown_legal : (n : ℕ) (s : Strategy) (best : Move) → IsShown t.game n (mover t.game) s → root_move s ≡ Some best → Member best (legal_in t.game)
  shown_legal n s best shown is =
      let (m, root, member) = roots_of_shown t.game n s first more shown legal in
      let same : m ≡ best = let both : ◌≡◌ {A = Option Move} (Some m) (Some best) = sym root ∙ is in cc in
      subst (λ (x : Move). Member x (legal_in t.game)) same member

  score_legal : (depth : ℕ) (score : Score) (best : Move) (unsettled : Option Evidence) → IsScore t depth score best unsettled → Member best (legal_in t.game)
  score_legal depth (Points points) best unsettled h = root_legal best h.1.root
  score_legal depth (Mates n s) best unsettled h = shown_legal n s best h.2 h.3
  score_legal depth (Mated n s) best unsettled h = root_legal best h.3.root

  reports_legal : (depth : ℕ) (other : Move) (reports later : List Report) → AreReports t depth reports → Member other (legal_in t.game)
      → ((m : Move) → Member m (legal_in t.game) → Member (last_best m later) (legal_in t.game))
      → Member (last_best other (reports ++ later)) (legal_in t.game)
  reports_legal depth other [] later are member onward = onward other member
  reports_legal depth other (report ∷ reports) later are member onward =
      reports_legal (depth + 1) report.best reports later are.1
      (score_legal depth report.score report.best report.unsettled are.0.scored) onward

  open_legal : (A : Type 0) (done : ℕ) (taken : List ℕ) (following : List Line) (ending : Ending) → MayEnd Cecp A t done taken following ending
      → (m : Move) → Member m (legal_in t.game) → Member (last_best m (open_report ending)) (legal_in t.game)
  open_legal A done taken following Whole ended m member = member
  open_legal A done taken following (InSearch cause) ended m member = member
  open_legal A done taken following (InSolve report n cause) ended m member = root_legal report.best ended.1.best.root

  pub best_legal : (A : Type 0) (reports : List Report) (ending : Ending) (taken : List ℕ) (following : List Line)
      → Deepens Cecp A t reports ending taken following → Member (last_best first (reported reports ending)) (legal_in t.game)
  best_legal A reports ending taken following d =
      reports_legal 1 first reports (open_report ending) d.valued (subst (λ (ms : List Move). Member first ms) (sym legal) (inl refl))
      (open_legal A (length reports) taken following ending d.ended)

-- ---- what is posted

posted : (posts : Bool) (rules : Rules) (reading : ℕ) (reports : List Report) (events : List Event)
    → Tells Cecp (style_of posts) rules reading 1 reports events → Posts posts (Reads reading ∷ events) reports
unfolding clocked after_reading
posted false rules reading reports events tells = tells.lines_are
posted true rules reading reports events tells = (tells.lines_are, tells.clocks_are None)

none_posted : (posts : Bool) → Posts posts [] []
unfolding clocked after_reading
none_posted false = refl
none_posted true = (refl, refl)

-- ---- the search

module _ {S K C : Type 0} {left : S → Option (List ℕ)} {taken : K → Option (List ℕ)} {given : C → Option (List ℕ)} {count last : C → ℕ} (state : State) where
  -- out of memory before it began
  pub seek_none : (s : S) (k : K) (c : C) → 0 < depth_for state → BrokeSeeking (Moves left taken given count last s s k k c c) state
  seek_none s k c some = record {
    events = [];
    reports = [];
    ending = InSearch Interrupted;
    behind = [];
    is_held = none;
    front = [];
    back = [];
    wrote = refl;
    went = moves_none s k c;
    unstopped = tt;
    posts = none_posted state.posts;
    deepens = record { valued = tt; ended = (some, (tt, tt)) };
  }

  module _ {s s' : S} {k k' : K} {c c' c'' : C} (t : Task) (is : t ≡ task_of state) (reading : ℕ)
      (gives : GivesReadings (count c') (given c) (given c') (reading ∷ [])) (counts : count c' ≡ count_after (count c) (reading ∷ []))
      (reads : last c' ≡ reading) where
    -- a fault came in it
    pub seek_broke : BrokeOff Cecp (style_of state.posts) (Moves left taken given count last s s' k k' c' c'') t reading
        → BrokeSeeking (Moves left taken given count last s s' k k' c c'') state
    seek_broke off =
        let b = subst (λ (u : Task). BrokeOff Cecp (style_of state.posts) (Moves left taken given count last s s' k k' c' c'') u reading) is off in
        record {
          events = Reads reading ∷ b.broke.events;
          reports = b.reports;
          ending = b.ending;
          behind = b.behind;
          is_held = b.is_held;
          front = b.broke.front;
          back = b.broke.back;
          wrote = b.broke.wrote;
          went = moves_more (moves_clock s k reading gives counts reads) b.broke.went;
          unstopped = (tt, b.broke.holds.0.unstopped);
          posts = posted state.posts state.game.rules reading (reported b.reports b.ending) b.broke.events b.broke.holds.0;
          deepens = b.broke.holds.1;
        }

    -- it came to an end
    pub seek_ended : {o o' : Owed} (first : Move) (text : List ℕ) (depths : Depths) → IsFirst state first
        → ((other : Move) → Deepened Cecp (style_of state.posts) (Moves left taken given count last s s' k k' c' c'') o o' t (first_of other t.roots) reading text depths)
        → Sought (Moves left taken given count last s s' k k' c c'') o o' state first depths.best text depths.why
    seek_ended {o = o} {o' = o'} first text depths (more, legal) all =
        let root : first_of first t.roots ≡ first = ap (λ u. first_of first u.roots) is ∙ ap (first_of first) legal in
        let d = subst (λ (m : Move). Deepened Cecp (style_of state.posts) (Moves left taken given count last s s' k k' c' c'') o o' (task_of state) m reading text depths) root
        (subst (λ (u : Task). Deepened Cecp (style_of state.posts) (Moves left taken given count last s s' k k' c' c'') o o' u (first_of first t.roots) reading text depths) is (all first)) in
        let follows = follows_held depths.why text [] (λ e. refl) in
        record {
          events = Reads reading ∷ d.ran.events;
          reports = d.reports;
          ending = d.ending;
          went = moves_more (moves_clock s k reading gives counts reads) d.ran.went;
          unstopped = (tt, d.ran.holds.0.unstopped);
          posts = posted state.posts state.game.rules reading (reported d.reports d.ending) d.ran.events d.ran.holds.0;
          deepens = d.ran.holds.1;
          ended = d.ended;
          best_is = d.best_is;
          legal = subst (λ (m : Move). Member m (legal_in state.game)) (sym d.best_is)
              (best_legal (task_of state) first more refl legal (Lacks o (bound_from true state)) d.reports d.ending (reading ∷ readings d.ran.events) (held depths.why text ++ [])
              (d.ran.holds.1 (held depths.why text ++ []) follows));
          spends = d.spends;
        }

-- ---- the search, as the code comes to it

module _ {S K C : Type 0} (left : S → Option (List ℕ)) (taken : K → Option (List ℕ)) (given : C → Option (List ℕ)) (count last : C → ℕ)
    (s s' : S) (k k' : K) (c c' c'' : C) (state : State) (t : Task) (is : t ≡ task_of state) (reading : ℕ)
    (gives : GivesReadings (count c') (given c) (given c') (reading ∷ [])) (counts : count c' ≡ count_after (count c) (reading ∷ []))
    (reads : last c' ≡ reading) (style : Style) (so : style ≡ style_of state.posts) where
  pub seek_fault : {A : Type 0} (r : Result A SearchFault)
      → ((why : SearchFault) → IsErrOf r why → BrokeOff Cecp style (Moves left taken given count last s s' k k' c' c'') t reading)
      → OnErr r (BrokeSeeking (Moves left taken given count last s s' k k' c c'') state)
  seek_fault r h =
      on_errors r (λ why faulty. seek_broke state t is reading gives counts reads
      (subst (λ (x : Style). BrokeOff Cecp x (Moves left taken given count last s s' k k' c' c'') t reading) so (h why faulty)))

  pub seek_result : (o o' : Owed) (text : List ℕ) (r : Result Depths SearchFault)
      → ((other : Move) → IfOk r (Deepened Cecp style (Moves left taken given count last s s' k k' c' c'') o o' t (first_of other t.roots) reading text))
      → IfOk r (λ depths. (first : Move) → IsFirst state first
      → Sought (Moves left taken given count last s s' k k' c c'') o o' state first depths.best text depths.why)
  seek_result o o' text (Ok depths) h = λ first is_first.
      seek_ended state t is reading gives counts reads first text depths is_first
      (λ other. subst (λ (x : Style). Deepened Cecp x (Moves left taken given count last s s' k k' c' c'') o o' t (first_of other t.roots) reading text depths) so (h other))
  seek_result o o' text (Err why) h = tt

-- ---- a game

pub legal_here : (g : Played) (rules : Rules) (p : Position) → rules ≡ g.rules → p ≡ (story g).last → legal rules (repeat_of p) ≡ legal_in g
legal_here g rules p same here = rw (same, here) refl

pub some_depth : (state : State) → 0 < depth_for state
some_depth state = let least : 1 ≤ depth_for state = depth_least (is_some (time_for state)) state.sd in omega (arith, least)
