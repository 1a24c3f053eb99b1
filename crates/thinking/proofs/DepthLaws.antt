-- One depth after another: what each part adds.
use Rattle.std.proofs.Common.{◌≡◌, ℕ, zero, suc, ◌+◌, ◌-◌, ◌≤◌, ◌<◌, List, [], ◌∷◌, ◌++◌, length, get_or, Option, Some, None, refl, sym, ap, subst, ◌∙◌, ◌⊎◌, inl, inr, arith}
use Rattle.std.specs.Prelude.{IfSome, ⊤}
use Rattle.std.specs.Option.{option_map}
use Rattle.std.proofs.lemmas.List.{append-nil, length-append}
use Rattle.io_ports.specs.declared.dialect.Dialect.{Dialect}
use Rattle.io_ports.specs.declared.limits.Limits.{Limits}
use Rattle.io_ports.specs.Lines.{Line, Text}
use Rattle.io_ports.specs.Owing.{Lacks, Spends}
use Rattle.io_ports.specs.Source.{Owed, Untold}
use Rattle.io_ports.specs.Trace.{Moves}
use Rattle.io_ports.proofs.Owing.{spends_more, spends_none, spends_wider}
use Rattle.rules_model.specs.declared.moves.Move.{Move}
use Rattle.game_play.specs.Played.{story}
use Rattle.evaluation.specs.Bounds.{depths_bound, search_bound}
use Rattle.watching.specs.declared.halt.Cut.{Cut}
use Rattle.watching.specs.declared.halt.Cut.TheVariants as cut
use Rattle.watching.specs.EventLaws.{ran_more, ran_none, readings-append}
use Rattle.watching.specs.Events.{Event, readings}
use Rattle.watching.specs.Looks.{held}
use Rattle.session_model.proofs.Reports.{depths_grow, depths_more, last_announced_snoc, last_best_snoc, reports_snoc, search_bound-some, searches_more}
use Rattle.session_model.specs.Deadlines.{deadline_of}
use Rattle.session_model.specs.Mates.{Announced}
use Rattle.session_model.specs.Events.{IsStopped}
use Rattle.session_model.specs.Thinking.{Task, Report, Cause, Ending, Interrupted, Whole, InSearch, InSolve, AreReports, Deepens, IsOpen, IsReport, MayCut, MayEnd, announced_by, last_announced, last_best, open_report, searches_upto, solve_within}
use Rattle.session_model.specs.UciSession.{first_of}
use Rattle.session_model.specs.Lines.{Follows, Held, none, one}
use Rattle.session_model.specs.Turned.{RanPart}
use Rattle.thinking.specs.declared.depth.Depth.{Depth}
use Rattle.thinking.specs.declared.depth.Depth.TheVariants.{Done, Off}
use Rattle.thinking.specs.declared.depth_result.CutSolve.{CutSolve}
use Rattle.thinking.specs.declared.depth_result.DepthResult.{DepthResult}
use Rattle.thinking.specs.declared.depth_result.AnnouncedMate.{AnnouncedMate}
use Rattle.thinking.specs.declared.style.Style.{Style}
use Rattle.thinking.specs.Cuts.{CutsBy, cause_of}
use Rattle.thinking.specs.Depths.{BrokeDepth, BrokeOff, Deepened, Deepening, Deeper, IsDepth, cut_in, reach_at, reports_in}
use Rattle.thinking.specs.Judging.{bound_at}
use Rattle.thinking.specs.Tells.{Tells}
use Rattle.thinking.specs.Views.{announced_seen, report_of}
use Rattle.thinking.proofs.CutLaws.{cuts_after, cuts_as, cuts_wider}
use Rattle.thinking.proofs.RanLaws.{broke_held_more}
use Rattle.thinking.proofs.TellLaws.{tells_more, tells_none}

-- the first root move
pub first_read : (roots : List Move) (other past : Move) → 0 < length roots → get_or roots 0 past ≡ first_of other roots
first_read [] other past some = absurd (omega arith)
first_read (m ∷ roots) other past some = refl

-- ---- how a search may end

-- the line that is held stops a search
held_stops : (dialect : Dialect) (why : Cut) (text : List ℕ) (owed : Owed) (bound : ℕ) (share deadline : Option ℕ) (reach : ℕ) (taken : List ℕ)
    → CutsBy dialect owed bound share deadline reach taken text why → IsStopped dialect (held (Some why) text)
held_stops dialect cut.Line text owed bound share deadline reach taken may = may.1
held_stops dialect cut.End text owed bound share deadline reach taken may = tt
held_stops dialect (cut.Quota quota) text owed bound share deadline reach taken may = tt
held_stops dialect (cut.Deadline reading) text owed bound share deadline reach taken may = tt

-- what cut a part, after depths that were not cut
cut_late : (dialect : Dialect) (why : Cut) (o o' : Owed) (t : Task) (done entered reach : ℕ) (quota deadline : Option ℕ) (first : ℕ) (x y : List Event) (text : List ℕ) (following : List Line)
    → Spends o o' (depths_bound t.game.rules done (story t.game)) → entered ≤ searches_upto t done → 0 < reach → done + 1 ≤ t.depths
    → quota ≡ option_map (λ number. number - entered) t.share → ((more : List ℕ) → deadline ≡ deadline_of t.time (first ∷ more))
    → CutsBy dialect o' (bound_at t (done + 1)) quota deadline reach (readings y) text why → Follows (Some why) text following
    → MayCut dialect (Lacks o (depths_bound t.game.rules t.depths (story t.game))) t.share t.time (searches_upto t done + reach) (first ∷ readings (x ++ y)) following (cause_of why)
cut_late dialect why o o' t done entered reach quota deadline first x y text following spends few some le quota_is start may follows =
    let rules = t.game.rules in let g = story t.game in
    let more = depths_more rules done g in
    let most = depths_grow rules (done + 1) t.depths g le in
    let by_share = subst (λ (q : Option ℕ). CutsBy dialect o' (bound_at t (done + 1)) q deadline reach (readings y) text why) quota_is may in
    let later = cuts_after dialect why o o' (depths_bound rules done g) (bound_at t (done + 1)) t.share deadline entered (searches_upto t done) reach (readings x) (readings y) text spends few some by_share in
    let wider = cuts_wider dialect why o (depths_bound rules done g + bound_at t (done + 1)) (depths_bound rules t.depths g) t.share deadline
    (searches_upto t done + reach) (searches_upto t done + reach) (readings x ++ readings y) text (omega (arith, more, most)) (omega arith) later in
    let whole = subst (λ (l : List ℕ). CutsBy dialect o (depths_bound rules t.depths g) t.share deadline (searches_upto t done + reach) l text why) (sym (readings-append x y)) wider in
    cuts_as dialect why o (depths_bound rules t.depths g) t.share t.time deadline (searches_upto t done + reach) first (readings (x ++ y)) text following start follows whole

module _ (dialect : Dialect) (A : Type 0) (t : Task) (reports : List Report) (done : ℕ) (taken : List ℕ) (following : List Line)
    (valued : AreReports t 1 reports) (counted : length reports ≡ done) (le : done + 1 ≤ t.depths) where
  deepens_off : (cause : Cause)
      → MayCut dialect A t.share t.time (searches_upto t done + search_bound t.game.rules (done + 1) (story t.game)) taken following cause
      → Deepens dialect A t reports (InSearch cause) taken following
  deepens_off cause may = record {
    valued = valued;
    ended = subst (λ n. MayEnd dialect A t n taken following (InSearch cause)) (sym counted) (
      omega arith,
      subst (λ n. MayCut dialect A t.share t.time n taken following cause) (sym (searches_more t done)) may,
    );
  }

  deepens_left : (report : Report) (moves : ℕ) (cause : Cause) → IsOpen t (done + 1) moves report
      → MayCut dialect A t.share t.time (searches_upto t done + (search_bound t.game.rules (done + 1) (story t.game) + solve_within t moves)) taken following cause
      → Deepens dialect A t reports (InSolve report moves cause) taken following
  deepens_left report moves cause is may =
      let more = searches_more t done in
      let same : searches_upto t done + (search_bound t.game.rules (done + 1) (story t.game) + solve_within t moves) ≡ searches_upto t (done + 1) + solve_within t moves = omega (arith, more) in
      record {
        valued = valued;
        ended = subst (λ n. MayEnd dialect A t n taken following (InSolve report moves cause)) (sym counted) (
          omega arith,
          is,
          subst (λ n. MayCut dialect A t.share t.time n taken following cause) same may,
        );
      }

next_depth : (done : ℕ) (reports : List Report) → length reports ≡ done → done + 1 ≡ 1 + length reports
next_depth done reports counted = omega (arith, counted)

spends_next : (o o' o'' : Owed) (t : Task) (done : ℕ) → Spends o o' (depths_bound t.game.rules done (story t.game)) → Spends o' o'' (bound_at t (done + 1))
    → Spends o o'' (depths_bound t.game.rules (done + 1) (story t.game))
spends_next o o' o'' t done before spends =
    let more = depths_more t.game.rules done (story t.game) in
    spends_wider o o'' (depths_bound t.game.rules done (story t.game) + bound_at t (done + 1)) (depths_bound t.game.rules (done + 1) (story t.game))
    (spends_more o o' o'' (depths_bound t.game.rules done (story t.game)) (bound_at t (done + 1)) before spends) (omega (arith, more))

spends_all : (o o' o'' : Owed) (t : Task) (done : ℕ) → done + 1 ≤ t.depths → Spends o o' (depths_bound t.game.rules done (story t.game)) → Spends o' o'' (bound_at t (done + 1))
    → Spends o o'' (depths_bound t.game.rules t.depths (story t.game))
spends_all o o' o'' t done le before spends = spends_wider o o'' (depths_bound t.game.rules (done + 1) (story t.game)) (depths_bound t.game.rules t.depths (story t.game))
    (spends_next o o' o'' t done before spends) (depths_grow t.game.rules (done + 1) t.depths (story t.game) le)

reach_some : (t : Task) (depth moves : ℕ) → 0 < search_bound t.game.rules depth (story t.game) + solve_within t moves
reach_some t depth moves = let some = search_bound-some t.game.rules depth (story t.game) in omega (arith, some)

less_or_same : (m n : ℕ) → m ≤ n → (m < n) ⊎ (m ≡ n)
less_or_same zero zero le = inr refl
less_or_same zero (suc n) le = inl (omega arith)
less_or_same (suc m) zero le = absurd (omega arith)
less_or_same (suc m) (suc n) le = elim (less_or_same m n (omega arith)) [
  | inl less ↦ inl (omega arith)
  | inr same ↦ inr (ap suc same)
]

-- with no line left, a search may end after any depth
done_or_cut : (dialect : Dialect) (t : Task) (reports : List Report) → length reports ≤ t.depths
    → (ending : Ending) × ((taken : List ℕ) → MayEnd dialect ⊤ t (length reports) taken [] ending) × (open_report ending ≡ [])
done_or_cut dialect t reports le = elim (less_or_same (length reports) t.depths le) [
  | inl less ↦ (InSearch Interrupted, λ taken. (less, (tt, tt)), refl)
  | inr same ↦ (Whole, λ taken. same, refl)
]

held_one : (why : Cut) (text : List ℕ) → Held (held (Some why) text)
held_one cut.Line text = one (Text text)
held_one cut.End text = none
held_one (cut.Quota quota) text = none
held_one (cut.Deadline reading) text = none

-- what is held follows, and nothing after it
follows_held : (why : Cut) (text : List ℕ) → Follows (Some why) text (held (Some why) text)
follows_held cut.Line text = ([], refl)
follows_held cut.End text = refl
follows_held (cut.Quota quota) text = tt
follows_held (cut.Deadline reading) text = tt

-- ---- one depth after another

module _ {S K C : Type 0} {left : S → Option (List ℕ)} {taken : K → Option (List ℕ)} {given : C → Option (List ℕ)} {count last : C → ℕ} (dialect : Dialect) (style : Style) where
  pub deepening_none : (s : S) (k : K) (c : C) (o : Owed) (t : Task) (root best : Move) (first : ℕ) → best ≡ root
      → Deepening dialect style (Moves left taken given count last s s k k c c) o o t root first 0 0 best None
  deepening_none s k c o t root best first is = record {
    reports = [];
    ran = ran_none dialect s k c (tells_none dialect style t.game.rules first 1);
    valued = tt;
    counted = refl;
    best_is = is;
    kept_is = refl;
    spends = spends_none o (depths_bound t.game.rules 0 (story t.game));
    few = omega arith;
  }

  module _ {s s' s'' : S} {k k' k'' : K} {c c' c'' : C} {o o' : Owed} (t : Task) (root : Move) (first done entered : ℕ) (best : Move) (kept : Option Announced)
      (so : Deepening dialect style (Moves left taken given count last s s' k k' c c') o o' t root first done entered best kept) where
    -- a depth is done
    pub deepening_more : {o'' : Owed} (limits : Limits) (text : List ℕ) (found : DepthResult) (clock entered' : ℕ)
        → Deeper dialect style (Moves left taken given count last s' s'' k' k'' c' c'') o' o'' t first (done + 1) limits text (Done found clock None)
        → entered' ≤ entered + found.nodes
        → Deepening dialect style (Moves left taken given count last s s'' k k'' c c'') o o'' t root first (done + 1) entered' found.best (announced_by (report_of found clock).score kept)
    deepening_more {o'' = o''} limits text found clock entered' d le =
        let report = report_of found clock in
        let before = so.few in let few = d.is.few in let searches = searches_more t done in
        record {
          reports = so.reports ++ report ∷ [];
          ran = ran_more dialect (Tells dialect style t.game.rules first 1 (so.reports ++ report ∷ []))
              (λ x y p q. tells_more dialect style t.game.rules first x y 1 (done + 1) so.reports (report ∷ []) p q.0 (next_depth done so.reports so.counted)) so.ran d.ran;
          valued = reports_snoc t 1 so.reports report so.valued (subst (λ n. IsReport t n report) (next_depth done so.reports so.counted) d.is);
          counted = length-append so.reports (report ∷ []) ∙ ap (λ n. n + 1) so.counted;
          best_is = sym (last_best_snoc root so.reports report);
          kept_is = ap (announced_by report.score) so.kept_is ∙ sym (last_announced_snoc None so.reports report);
          spends = spends_next o o' o'' t done so.spends d.spends;
          few = omega (arith, before, few, searches, le);
        }

    module _ (limits : Limits) (text : List ℕ) (le : done + 1 ≤ t.depths) (quota_is : limits.quota ≡ option_map (λ number. number - entered) t.share)
        (start : (more : List ℕ) → limits.deadline ≡ deadline_of t.time (first ∷ more)) where
      -- its search was cut
      pub deepening_off : {o'' : Owed} (kept_at : Option AnnouncedMate) (why : Cut) → kept ≡ announced_seen kept_at
          → Deeper dialect style (Moves left taken given count last s' s'' k' k'' c' c'') o' o'' t first (done + 1) limits text (Off why)
          → Deepened dialect style (Moves left taken given count last s s'' k k'' c c'') o o'' t root first text (record { best = best; kept = kept_at; why = Some why })
      deepening_off {o'' = o''} kept_at why kept_is d = record {
        reports = so.reports;
        ending = InSearch (cause_of why);
        ran = ran_more dialect _
            (λ x y p q. (
              tells_more dialect style t.game.rules first x y 1 (done + 1) so.reports [] p q.0 (next_depth done so.reports so.counted),
              λ following follows. deepens_off dialect (Lacks o (depths_bound t.game.rules t.depths (story t.game))) t so.reports done (first ∷ readings (x ++ y)) following so.valued so.counted le (cause_of why)
                  (cut_late dialect why o o' t done entered (search_bound t.game.rules (done + 1) (story t.game)) limits.quota limits.deadline first x y text following so.spends so.few
                  (search_bound-some t.game.rules (done + 1) (story t.game)) le quota_is start q.1 follows),
            )) so.ran d.ran;
        ended = refl;
        best_is = so.best_is ∙ ap (last_best root) (sym (append-nil so.reports));
        kept_is = sym kept_is ∙ so.kept_is ∙ ap (last_announced None) (sym (append-nil so.reports));
        spends = spends_all o o' o'' t done le so.spends d.spends;
      }

      -- the solve after it was cut
      pub deepening_left : {o'' : Owed} (found : DepthResult) (clock : ℕ) (solve : CutSolve) (kept_at : Option AnnouncedMate) → announced_by (report_of found clock).score kept ≡ announced_seen kept_at
          → Deeper dialect style (Moves left taken given count last s' s'' k' k'' c' c'') o' o'' t first (done + 1) limits text (Done found clock (Some solve))
          → Deepened dialect style (Moves left taken given count last s s'' k k'' c c'') o o'' t root first text (record { best = found.best; kept = kept_at; why = Some solve.why })
      deepening_left {o'' = o''} found clock solve kept_at kept_is d =
          let report = report_of found clock in
          record {
            reports = so.reports;
            ending = InSolve report solve.moves (cause_of solve.why);
            ran = ran_more dialect _
                (λ x y p q. (
                  tells_more dialect style t.game.rules first x y 1 (done + 1) so.reports (report ∷ []) p q.0 (next_depth done so.reports so.counted),
                  λ following follows. deepens_left dialect (Lacks o (depths_bound t.game.rules t.depths (story t.game))) t so.reports done (first ∷ readings (x ++ y)) following so.valued so.counted le report solve.moves (cause_of solve.why) d.is
                      (cut_late dialect solve.why o o' t done entered (search_bound t.game.rules (done + 1) (story t.game) + solve_within t solve.moves) limits.quota limits.deadline first x y text following so.spends so.few
                      (reach_some t (done + 1) solve.moves) le quota_is start q.1 follows),
                )) so.ran d.ran;
            ended = refl;
            best_is = sym (last_best_snoc root so.reports report);
            kept_is = sym kept_is ∙ ap (announced_by report.score) so.kept_is ∙ sym (last_announced_snoc None so.reports report);
            spends = spends_all o o' o'' t done le so.spends d.spends;
          }

      -- a fault came
      pub deepening_broke : BrokeDepth dialect style (Moves left taken given count last s' s'' k' k'' c' c'') t first (done + 1) limits
          → BrokeOff dialect style (Moves left taken given count last s s'' k k'' c c'') t first
      deepening_broke b = by_depth b.d b.broke b.is
        where
          untold : Spends Untold Untold (depths_bound t.game.rules done (story t.game))
          untold = refl

          by_depth : (d : Depth) → RanPart dialect (Moves left taken given count last s' s'' k' k'' c' c'') (held (cut_in d) b.text) (λ events.
              Tells dialect style t.game.rules first (done + 1) (reports_in d) events
              × IfSome (cut_in d) (CutsBy dialect Untold (bound_at t (done + 1)) limits.quota limits.deadline (reach_at t (done + 1) d) (readings events) b.text))
              → IsDepth t (done + 1) d → BrokeOff dialect style (Moves left taken given count last s s'' k k'' c c'') t first
          by_depth (Off why) broke is = record {
            reports = so.reports;
            ending = InSearch (cause_of why);
            behind = held (Some why) b.text;
            is_held = held_one why b.text;
            stopped = held_stops dialect why b.text Untold (bound_at t (done + 1)) limits.quota limits.deadline (reach_at t (done + 1) (Off why)) (readings broke.events) broke.holds.1;
            broke = broke_held_more dialect _
                (λ x y p q. (
                  tells_more dialect style t.game.rules first x y 1 (done + 1) so.reports [] p q.0 (next_depth done so.reports so.counted),
                  deepens_off dialect ⊤ t so.reports done (first ∷ readings (x ++ y)) (held (Some why) b.text) so.valued so.counted le (cause_of why)
                      (cut_late dialect why Untold Untold t done entered (search_bound t.game.rules (done + 1) (story t.game)) limits.quota limits.deadline first x y b.text (held (Some why) b.text) untold so.few
                      (search_bound-some t.game.rules (done + 1) (story t.game)) le quota_is start q.1 (follows_held why b.text)),
                )) so.ran broke;
          }
          by_depth (Done found clock None) broke is =
              let report = report_of found clock in
              let counted : length (so.reports ++ report ∷ []) ≡ done + 1 = length-append so.reports (report ∷ []) ∙ ap (λ n. n + 1) so.counted in
              let valued = reports_snoc t 1 so.reports report so.valued (subst (λ n. IsReport t n report) (next_depth done so.reports so.counted) is) in
              let (ending, ends, closed) = done_or_cut dialect t (so.reports ++ report ∷ []) (subst (λ n. n ≤ t.depths) (sym counted) le) in
              record {
                reports = so.reports ++ report ∷ [];
                ending = ending;
                behind = [];
                is_held = none;
                stopped = tt;
                broke = broke_held_more dialect _
                    (λ x y p q. (
                      subst (λ rs. Tells dialect style t.game.rules first 1 rs (x ++ y)) (sym (ap (λ rs. (so.reports ++ report ∷ []) ++ rs) closed ∙ append-nil (so.reports ++ report ∷ [])))
                          (tells_more dialect style t.game.rules first x y 1 (done + 1) so.reports (report ∷ []) p q.0 (next_depth done so.reports so.counted)),
                      record { valued = valued; ended = ends (first ∷ readings (x ++ y)) },
                    )) so.ran broke;
              }
          by_depth (Done found clock (Some solve)) broke is =
              let report = report_of found clock in
              record {
                reports = so.reports;
                ending = InSolve report solve.moves (cause_of solve.why);
                behind = held (Some solve.why) b.text;
                is_held = held_one solve.why b.text;
                stopped = held_stops dialect solve.why b.text Untold (bound_at t (done + 1)) limits.quota limits.deadline (reach_at t (done + 1) (Done found clock (Some solve))) (readings broke.events) broke.holds.1;
                broke = broke_held_more dialect _
                    (λ x y p q. (
                      tells_more dialect style t.game.rules first x y 1 (done + 1) so.reports (report ∷ []) p q.0 (next_depth done so.reports so.counted),
                      deepens_left dialect ⊤ t so.reports done (first ∷ readings (x ++ y)) (held (Some solve.why) b.text) so.valued so.counted le report solve.moves (cause_of solve.why) is
                          (cut_late dialect solve.why Untold Untold t done entered (search_bound t.game.rules (done + 1) (story t.game) + solve_within t solve.moves) limits.quota limits.deadline first x y b.text (held (Some solve.why) b.text) untold so.few
                          (reach_some t (done + 1) solve.moves) le quota_is start q.1 (follows_held solve.why b.text)),
                    )) so.ran broke;
              }
