-- A search, and the solve after it: what both add.
use Rattle.std.proofs.Common.{◌≡◌, ℕ, ◌+◌, ◌-◌, ◌≤◌, ◌<◌, List, [], ◌∷◌, ◌++◌, length, Option, Some, None, Ok, Err, IsErrOf, refl, sym, subst, arith}
use Rattle.std.specs.Prelude.{IfSome}
use Rattle.std.specs.declared.result.Result.{Result}
use Rattle.std.specs.Option.{option_map}
use Rattle.std.specs.Io.KnownBytes.{Appends}
use Rattle.std.specs.List.{concat}
use Rattle.io_ports.specs.Clock.{GivesReadings, count_after, last_after}
use Rattle.io_ports.specs.declared.dialect.Dialect.{Dialect}
use Rattle.io_ports.specs.declared.limits.Limits.{Limits}
use Rattle.io_ports.specs.declared.limits.SearchFault.{SearchFault}
use Rattle.io_ports.specs.declared.limits.SearchFault.TheVariants as fault
use Rattle.io_ports.specs.Sink.{AppendsFront}
use Rattle.io_ports.specs.Source.{Owed, Untold}
use Rattle.io_ports.specs.Trace.{Moves}
use Rattle.io_ports.proofs.Owing.{spends_more, spends_none, spends_wider}
use Rattle.rules_model.specs.declared.moves.Move.{Move}
use Rattle.game_play.specs.Played.{story}
use Rattle.watching.specs.declared.halt.Cut.{Cut}
use Rattle.watching.specs.declared.halt.Cut.TheVariants as cut
use Rattle.watching.specs.EventLaws.{broke_more, listens_more, ran_holds, ran_more, ran_none, readings-append}
use Rattle.watching.specs.Events.{Event, Listens, readings}
use Rattle.watching.specs.Looks.{Broke, IsCaused}
use Rattle.watching.specs.Watched.{World, Moment, MovesOn, Later, Failed, Gone}
use Rattle.session_model.proofs.Reports.{solve_bound-some, sought_is_near}
use Rattle.session_model.specs.Thinking.{Task, mate_sought, solve_within}
use Rattle.session_model.specs.Lines.{Causes}
use Rattle.thinking.specs.declared.depth.Depth.TheVariants.{Done, Off}
use Rattle.thinking.specs.declared.depth_result.CutSolve.{CutSolve}
use Rattle.thinking.specs.declared.depth_result.DepthResult.{DepthResult}
use Rattle.thinking.specs.declared.judging.DepthSearched.TheVariants as explored
use Rattle.thinking.specs.declared.judging.DepthJudged.{DepthJudged}
use Rattle.thinking.specs.declared.style.Style.{Style}
use Rattle.thinking.specs.Cuts.{CutsBy}
use Rattle.thinking.specs.Depths.{BrokeDepth, Deeper, IsDepth}
use Rattle.thinking.specs.Judging.{IsExplored, IsFinding, IsJudged, asked_at, bound_at, search_at, solve_cut, solve_reach}
use Rattle.thinking.specs.Tells.{Tells, lines_by, reads_by}
use Rattle.thinking.specs.Views.{report_of}
use Rattle.thinking.proofs.CutLaws.{cuts_after, cuts_more, cuts_of_watch, cuts_untold, cuts_wider}
use Rattle.thinking.proofs.RanLaws.{broke_held, broke_told, ran_told, told, told_moves}
use Rattle.thinking.proofs.TellLaws.{listens_none, listens_tells, tells_told}

-- what holds of a judgement with these parts
judged_is : (P : DepthJudged → Type 0) (j : DepthJudged) {found : DepthResult} {cut : Option CutSolve} → j.found ≡ found → j.cut ≡ cut
    → P (record { found = found; cut = cut }) → P j
judged_is P j {found = found} {cut = cut} f e p =
    subst (λ (x : DepthResult). P (record { found = x; cut = j.cut })) (sym f) (subst (λ (y : Option CutSolve). P (record { found = found; cut = y })) (sym e) p)

-- a solve for the mate that a value stands for stays within what its depth allows
pub near_of : (t : Task) (depth n : ℕ) → 0 < length t.roots → 0 < depth → mate_sought t depth ≡ Some n → solve_within t n ≤ asked_at t depth
near_of t depth n some least sought = by_roots t.roots refl some
  where
    by_roots : (roots : List Move) → t.roots ≡ roots → 0 < length roots → solve_within t n ≤ asked_at t depth
    by_roots [] are some = absurd (omega arith)
    by_roots (first ∷ roots) are some = sought_is_near t depth n first roots are least sought

-- ---- faults

module _ {T S K C : Type 0} (w : World S K C) (a b : Moment S K C) where
  -- the fault that ended a search is caused, also where it is told on
  pub failed_causes : (dialect : Dialect) (bound : ℕ) (why : SearchFault) (r : Result T SearchFault) → r ≡ Err why → Failed w dialect a b bound why
      → Causes (w.source_faults a.source) (w.source_faults b.source) (w.sink_faults a.sink) (w.sink_faults b.sink) (IsErrOf r)
  failed_causes dialect bound why r is failed = record {
    source_later = failed.later.source_later;
    sink_later = failed.later.sink_later;
    source_failed = λ (e : r ≡ Err fault.ReadFault). let same : why ≡ fault.ReadFault = cc in subst (λ (f : SearchFault). IsCaused (w.source_faults a.source) (w.source_faults b.source) (w.sink_faults a.sink) (w.sink_faults b.sink) f) same failed.caused;
    sink_failed = λ (e : r ≡ Err fault.WriteFault). let same : why ≡ fault.WriteFault = cc in subst (λ (f : SearchFault). IsCaused (w.source_faults a.source) (w.source_faults b.source) (w.sink_faults a.sink) (w.sink_faults b.sink) f) same failed.caused;
  }

  -- no fault ended it
  pub ok_causes : (x : T) → Later w a b
      → Causes (w.source_faults a.source) (w.source_faults b.source) (w.sink_faults a.sink) (w.sink_faults b.sink) (IsErrOf (Ok x))
  ok_causes x later = record {
    source_later = later.source_later;
    sink_later = later.sink_later;
    source_failed = λ (e : Ok x ≡ Err fault.ReadFault). absurd (cc);
    sink_failed = λ (e : Ok x ≡ Err fault.WriteFault). absurd (cc);
  }

module _ {S K C : Type 0} (w : World S K C) (dialect : Dialect) where
  module _ {a b : Moment S K C} (t : Task) (depth : ℕ) (limits : Limits) (text : List ℕ) (begins : a.nodes ≡ 0) where
    -- ---- a solve

    -- it came to its end
    pub judged_solved : (n : ℕ) (judged : DepthJudged) {found : DepthResult} → judged.found ≡ found → judged.cut ≡ None → Gone w dialect limits a b text (solve_within t n) None → solve_within t n ≤ asked_at t depth
        → IsFinding t depth found None
        → IsJudged dialect (MovesOn w a b) (w.owed a.source) (w.owed b.source) t depth limits text judged
    judged_solved n judged f e gone near is = judged_is (IsJudged dialect (MovesOn w a b) (w.owed a.source) (w.owed b.source) t depth limits text) judged f e (record {
      ran = ran_holds dialect (λ events p. (p.0, tt)) gone.looked.ran;
      is = is;
      spends = spends_wider (w.owed a.source) (w.owed b.source) (solve_within t n) (asked_at t depth) gone.looked.spends near;
    })

    -- it was cut
    pub judged_cut : (solve : CutSolve) {found found' : DepthResult} → found' ≡ found → Gone w dialect limits a b text (solve_within t solve.moves) (Some solve.why) → solve_within t solve.moves ≤ asked_at t depth
        → IsFinding t depth found (Some solve)
        → IsJudged dialect (MovesOn w a b) (w.owed a.source) (w.owed b.source) t depth limits text (record { found = found'; cut = Some solve })
    judged_cut solve {found' = found'} f gone near is = judged_is (IsJudged dialect (MovesOn w a b) (w.owed a.source) (w.owed b.source) t depth limits text) (record { found = found'; cut = Some solve }) f refl (record {
      ran = ran_holds dialect
          (λ events p. (
            p.0,
            cuts_wider dialect solve.why (w.owed a.source) (solve_within t solve.moves) (asked_at t depth) limits.quota limits.deadline (a.nodes + solve_within t solve.moves) (solve_within t solve.moves) (readings events) text near (omega (arith, begins))
                (cuts_of_watch dialect solve.why (w.owed a.source) (solve_within t solve.moves) limits (a.nodes + solve_within t solve.moves) b.nodes (readings events) text p.1),
          )) gone.looked.ran;
      is = is;
      spends = spends_wider (w.owed a.source) (w.owed b.source) (solve_within t solve.moves) (asked_at t depth) gone.looked.spends near;
    })

    -- ---- a search

    -- it was cut
    pub explored_off : (why : Cut) → Gone w dialect limits a b text (search_at t depth) (Some why)
        → IsExplored dialect (MovesOn w a b) (w.owed a.source) (w.owed b.source) t depth limits text (explored.Off why)
    explored_off why gone = record {
      ran = ran_holds dialect
          (λ events p. (
            p.0,
            cuts_wider dialect why (w.owed a.source) (search_at t depth) (bound_at t depth) limits.quota limits.deadline (a.nodes + search_at t depth) (search_at t depth) (readings events) text (omega arith) (omega (arith, begins))
                (cuts_of_watch dialect why (w.owed a.source) (search_at t depth) limits (a.nodes + search_at t depth) b.nodes (readings events) text p.1),
          )) gone.looked.ran;
      is = tt;
      spends = spends_wider (w.owed a.source) (w.owed b.source) (search_at t depth) (bound_at t depth) gone.looked.spends (omega arith);
    }

    -- it came to its end, and then a mate was looked for
    pub explored_found : (d : Moment S K C) (text' : List ℕ) (nodes : ℕ) (judged : DepthJudged) → Gone w dialect limits a b text (search_at t depth) None → nodes ≤ search_at t depth
        → IsJudged dialect (MovesOn w b d) (w.owed b.source) (w.owed d.source) t depth (record { quota = option_map (λ number. number - nodes) limits.quota; deadline = limits.deadline }) text' judged
        → IsExplored dialect (MovesOn w a d) (w.owed a.source) (w.owed d.source) t depth limits text' (explored.Found judged)
    explored_found d text' nodes judged gone few j = record {
      ran = ran_more dialect _ (λ x y p q. (listens_more dialect x y p.0 q.0, by_cut judged.cut x y q.1)) gone.looked.ran j.ran;
      is = j.is;
      spends = spends_more (w.owed a.source) (w.owed b.source) (w.owed d.source) (search_at t depth) (asked_at t depth) gone.looked.spends j.spends;
    }
      where
        by_cut : (cut : Option CutSolve) (x y : List Event)
            → IfSome (solve_cut cut) (CutsBy dialect (w.owed b.source) (asked_at t depth) (option_map (λ number. number - nodes) limits.quota) limits.deadline (solve_reach t cut) (readings y) text')
            → IfSome (solve_cut cut) (CutsBy dialect (w.owed a.source) (bound_at t depth) limits.quota limits.deadline (search_at t depth + solve_reach t cut) (readings (x ++ y)) text')
        by_cut None x y may = tt
        by_cut (Some solve) x y may =
            subst (λ (l : List ℕ). CutsBy dialect (w.owed a.source) (bound_at t depth) limits.quota limits.deadline (search_at t depth + solve_within t solve.moves) l text' solve.why) (sym (readings-append x y))
            (cuts_after dialect solve.why (w.owed a.source) (w.owed b.source) (search_at t depth) (asked_at t depth) limits.quota limits.deadline nodes (search_at t depth) (solve_within t solve.moves) (readings x) (readings y) text' gone.looked.spends few
            (solve_bound-some t.game.rules solve.moves (story t.game)) may)

    -- a fault came in what followed it
    pub explored_broke : (d : Moment S K C) → Gone w dialect limits a b text (search_at t depth) None
        → Broke dialect (MovesOn w b d) (Listens dialect) → Broke dialect (MovesOn w a d) (Listens dialect)
    explored_broke d gone broke = broke_more dialect (Listens dialect) (λ x y p q. listens_more dialect x y p.0 q) gone.looked.ran broke

  -- no mate is looked for
  pub judged_none : (a : Moment S K C) (t : Task) (depth : ℕ) (limits : Limits) (text : List ℕ) (judged : DepthJudged) {found : DepthResult} → judged.found ≡ found → judged.cut ≡ None
      → IsFinding t depth found None
      → IsJudged dialect (MovesOn w a a) (w.owed a.source) (w.owed a.source) t depth limits text judged
  judged_none a t depth limits text judged f e is = judged_is (IsJudged dialect (MovesOn w a a) (w.owed a.source) (w.owed a.source) t depth limits text) judged f e (record {
    ran = ran_none dialect a.source a.sink a.clock (tt, tt);
    is = is;
    spends = spends_none (w.owed a.source) (asked_at t depth);
  })

-- ---- and its lines

module _ (dialect : Dialect) (style : Style) (t : Task) (first depth : ℕ) (limits : Limits) (text : List ℕ) where
  abbrev Told : Owed → DepthResult → ℕ → Option CutSolve → List Event → Type 0
  Told owed found reading cut events =
      Tells dialect style t.game.rules first depth (report_of found reading ∷ []) events
      × IfSome (solve_cut cut) (CutsBy dialect owed (bound_at t depth) limits.quota limits.deadline (search_at t depth + solve_reach t cut) (readings events) text)

  abbrev texts_of : DepthResult → ℕ → List (List ℕ)
  texts_of found reading = lines_by style t.game.rules first depth (report_of found reading ∷ [])

  is_depth : (found : DepthResult) (reading : ℕ) (cut : Option CutSolve) → IsFinding t depth found cut → IsDepth t depth (Done found reading cut)
  is_depth found reading None is = is reading
  is_depth found reading (Some solve) is = is reading

  told_then : (o o' : Owed) (found : DepthResult) (reading : ℕ) (cut : Option CutSolve) (a : List Event)
      → ((why : Cut) (reach : ℕ) → CutsBy dialect o (bound_at t depth) limits.quota limits.deadline reach (readings a) text why → CutsBy dialect o' (bound_at t depth) limits.quota limits.deadline reach (readings a) text why)
      → Listens dialect a × IfSome (solve_cut cut) (CutsBy dialect o (bound_at t depth) limits.quota limits.deadline (search_at t depth + solve_reach t cut) (readings a) text)
      → Told o' found reading cut (a ++ told style reading (texts_of found reading))
  told_then o o' found reading cut a weaker p = (
    listens_tells dialect style t.game.rules first a (told style reading (texts_of found reading)) depth (report_of found reading ∷ []) p.0 (tells_told dialect style t.game.rules first depth (report_of found reading)),
    by_cut cut p.1,
  )
    where
      by_cut : (cut : Option CutSolve) → IfSome (solve_cut cut) (CutsBy dialect o (bound_at t depth) limits.quota limits.deadline (search_at t depth + solve_reach t cut) (readings a) text)
          → IfSome (solve_cut cut) (CutsBy dialect o' (bound_at t depth) limits.quota limits.deadline (search_at t depth + solve_reach t cut) (readings (a ++ told style reading (texts_of found reading))) text)
      by_cut None may = tt
      by_cut (Some solve) may =
          subst (λ (l : List ℕ). CutsBy dialect o' (bound_at t depth) limits.quota limits.deadline (search_at t depth + solve_within t solve.moves) l text solve.why) (sym (readings-append a (told style reading (texts_of found reading))))
          (cuts_more dialect solve.why o' (bound_at t depth) limits.quota limits.deadline (search_at t depth + solve_within t solve.moves) (readings a) (readings (told style reading (texts_of found reading))) text
          (weaker solve.why (search_at t depth + solve_within t solve.moves) may))

module _ {S K C : Type 0} {left : S → Option (List ℕ)} {taken : K → Option (List ℕ)} {given : C → Option (List ℕ)} {count last : C → ℕ} (dialect : Dialect) (style : Style) (t : Task) (first depth : ℕ) (limits : Limits) (text : List ℕ) where
  pub deeper_off : {s s' : S} {k k' : K} {c c' : C} {o o' : Owed} (why : Cut)
      → IsExplored dialect (Moves left taken given count last s s' k k' c c') o o' t depth limits text (explored.Off why)
      → Deeper dialect style (Moves left taken given count last s s' k k' c c') o o' t first depth limits text (Off why)
  deeper_off why e = record {
    ran = ran_holds dialect (λ events p. (listens_none dialect style t.game.rules first events depth p.0, p.1)) e.ran;
    is = tt;
    spends = e.spends;
  }

  -- a fault came before its lines
  pub broke_before : {s s' : S} {k k' : K} {c c' : C}
      → Broke dialect (Moves left taken given count last s s' k k' c c') (Listens dialect)
      → BrokeDepth dialect style (Moves left taken given count last s s' k k' c c') t first depth limits
  broke_before broke = record {
    text = text;
    d = Off cut.End;
    broke = broke_held dialect (λ events p. (listens_none dialect style t.game.rules first events depth p, tt)) broke;
    is = tt;
  }

  module _ {s s' : S} {k k' k'' : K} {c c' c'' : C} {o o' : Owed} (judged : DepthJudged) (reading : ℕ)
      (e : IsExplored dialect (Moves left taken given count last s s' k k' c c') o o' t depth limits text (explored.Found judged))
      (gives : GivesReadings (count c'') (given c') (given c'') (reads_by style reading)) (counts : count c'' ≡ count_after (count c') (reads_by style reading))
      (lasts : last c'' ≡ last_after (last c') (reads_by style reading)) where
    pub deeper_done : Appends (taken k') (taken k'') (concat (lines_by style t.game.rules first depth (report_of judged.found reading ∷ [])))
        → Deeper dialect style (Moves left taken given count last s s' k k'' c c'') o o' t first depth limits text (Done judged.found reading judged.cut)
    deeper_done app = record {
      ran = ran_told dialect (Told dialect style t first depth limits text o judged.found reading judged.cut) style reading (lines_by style t.game.rules first depth (report_of judged.found reading ∷ []))
          (λ a p. told_then dialect style t first depth limits text o o judged.found reading judged.cut a (λ why reach may. may) p) e.ran (told_moves dialect s' style reading app gives counts lasts);
      is = is_depth dialect style t first depth limits text judged.found reading judged.cut e.is;
      spends = e.spends;
    }

    -- a fault came in its lines
    pub broke_in : AppendsFront (taken k') (taken k'') (concat (lines_by style t.game.rules first depth (report_of judged.found reading ∷ [])))
        → BrokeDepth dialect style (Moves left taken given count last s s' k k'' c c'') t first depth limits
    broke_in app = record {
      text = text;
      d = Done judged.found reading judged.cut;
      broke = broke_told dialect (Told dialect style t first depth limits text Untold judged.found reading judged.cut) style reading (lines_by style t.game.rules first depth (report_of judged.found reading ∷ [])) app.front app.back
          (λ a p. told_then dialect style t first depth limits text o Untold judged.found reading judged.cut a (λ why reach may. cuts_untold dialect why o (bound_at t depth) (bound_at t depth) limits.quota limits.deadline reach (readings a) text may) p)
          e.ran app.whole (told_moves dialect s' style reading app.took gives counts lasts);
      is = is_depth dialect style t first depth limits text judged.found reading judged.cut e.is;
    }
