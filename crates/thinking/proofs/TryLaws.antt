-- Solves within 1, 2, .. moves, one after another.
use Rattle.std.proofs.Common.{◌≡◌, ℕ, zero, suc, ◌+◌, ◌-◌, ◌≤◌, List, [], ◌++◌, Option, Some, None, sym, subst, arith}
use Rattle.io_ports.specs.declared.dialect.Dialect.{Dialect}
use Rattle.io_ports.specs.declared.limits.Limits.{Limits}
use Rattle.io_ports.specs.Owing.{Spends}
use Rattle.io_ports.proofs.Owing.{spends_more, spends_wider}
use Rattle.rules_model.specs.declared.rules.Rules.{Rules}
use Rattle.rules_model.specs.Games.{Story}
use Rattle.game_play.specs.Played.{Played, story}
use Rattle.evaluation.specs.Bounds.{solve_bound, solves_bound}
use Rattle.watching.specs.declared.halt.Cut.{Cut}
use Rattle.watching.specs.EventLaws.{broke_more, listens_more, ran_more, readings-append}
use Rattle.watching.specs.Events.{Event, Listens, readings}
use Rattle.watching.specs.Looks.{Broke, MayCut, Ran, held}
use Rattle.watching.specs.Watched.{World, Moment, MovesOn, Gone, moment}
use Rattle.session_model.proofs.Shown.{no_shorter_more}
use Rattle.session_model.specs.Mates.{IsNoWin, mover}
use Rattle.session_model.specs.UciSession.{Decides}
use Rattle.thinking.specs.declared.mates.MateAttempt.{MateAttempt}
use Rattle.thinking.specs.Cuts.{CutsBy}
use Rattle.thinking.specs.Tries.{BrokeTrying, IsCutBy, IsMate, IsTried, Trying, answer_seen, cut_in}
use Rattle.thinking.proofs.CutLaws.{cuts_later, cuts_of_watch, cuts_wider}

-- ---- bounds

solves_more : (rules : Rules) (n : ℕ) (g : Story) → solves_bound rules (n + 1) g ≡ solves_bound rules n g + solve_bound rules (n + 1) g
unfolding solves_bound
solves_more rules n g = let next : n + 1 ≡ suc n = omega arith in rw next

solves_beyond : (rules : Rules) (n more : ℕ) (g : Story) → solves_bound rules n g ≤ solves_bound rules (more + n) g
solves_beyond rules n zero g =
    let same : n ≡ 0 + n = omega arith in
    subst (λ m. solves_bound rules n g ≤ solves_bound rules m g) same (omega arith)
solves_beyond rules n (suc more) g =
    let less = solves_beyond rules n more g in
    let next = solves_more rules (more + n) g in
    let same : more + n + 1 ≡ suc more + n = omega arith in
    subst (λ m. solves_bound rules n g ≤ solves_bound rules m g) same (omega (arith, less, next))

solves_grow : (rules : Rules) (n last : ℕ) (g : Story) → n ≤ last → solves_bound rules n g ≤ solves_bound rules last g
solves_grow rules n last g le =
    let same : (last - n) + n ≡ last = omega arith in
    subst (λ m. solves_bound rules n g ≤ solves_bound rules m g) same (solves_beyond rules n (last - n) g)

-- ---- one solve after another

module _ {S K C : Type 0} (w : World S K C) (dialect : Dialect) (g : Played) (last before : ℕ) (a b : Moment S K C)
    (so : Trying dialect (MovesOn w a b) (w.owed a.source) (w.owed b.source) g before) where
  -- the number that is tried next decides, if any does
  pub trying_decides : before + 1 ≤ last → Decides g last (before + 1)
  trying_decides le = record { some = omega arith; few = le; first = so.none }

  -- a fault came
  pub trying_broke : (d : Moment S K C) → before + 1 ≤ last → Broke dialect (MovesOn w b d) (Listens dialect) → BrokeTrying dialect (MovesOn w a d) g last
  trying_broke d le broke = record {
    moves = before + 1;
    decides = trying_decides le;
    broke = broke_more dialect (Listens dialect) (λ x y p q. listens_more dialect x y p q) so.ran broke;
  }

  module _ (d : Moment S K C) (limits : Limits) (text : List ℕ) (why : Option Cut)
      (gone : Gone w dialect limits (moment b.source b.sink b.clock 0) d text (solve_bound g.rules (before + 1) (story g)) why) where
    spends_next : Spends (w.owed a.source) (w.owed d.source) (solves_bound g.rules (before + 1) (story g))
    spends_next =
        let more = solves_more g.rules before (story g) in
        spends_wider (w.owed a.source) (w.owed d.source) (solves_bound g.rules before (story g) + solve_bound g.rules (before + 1) (story g)) (solves_bound g.rules (before + 1) (story g))
        (spends_more (w.owed a.source) (w.owed b.source) (w.owed d.source) (solves_bound g.rules before (story g)) (solve_bound g.rules (before + 1) (story g)) so.spends gone.looked.spends) (omega (arith, more))

    -- there is no mate within this number
    pub trying_more : why ≡ None → IsNoWin g (before + 1) (mover g) → Trying dialect (MovesOn w a d) (w.owed a.source) (w.owed d.source) g (before + 1)
    trying_more is lost = record {
      ran = ran_more dialect (Listens dialect) (λ x y p q. listens_more dialect x y p q.0) so.ran (uncut why is gone.looked.ran);
      none = no_shorter_more g (before + 1) so.none lost;
      spends = spends_next;
    }
      where
        uncut : (why : Option Cut) → why ≡ None → {P : List Event → Type 0} → Ran dialect (MovesOn w b d) (held why text) P → Ran dialect (MovesOn w b d) [] P
        uncut None is ran = ran
        uncut (Some why) is ran = absurd (cc)

    -- an answer
    pub trying_done : (tried : MateAttempt) → before + 1 ≤ last → cut_in tried ≡ why → IsMate g last (answer_seen tried)
        → ((taken : List ℕ) (first : List ℕ) → MayCut dialect (w.owed b.source) (solve_bound g.rules (before + 1) (story g)) limits (solve_bound g.rules (before + 1) (story g)) d.nodes taken text why → IsCutBy dialect (w.owed a.source) limits g last (first ++ taken) text tried)
        → IsTried dialect (MovesOn w a d) (w.owed a.source) (w.owed d.source) limits g last text tried
    trying_done tried le cut_is is cuts = record {
      ran = subst (λ (why : Option Cut). Ran dialect (MovesOn w a d) (held why text) (λ events. Listens dialect events × IsCutBy dialect (w.owed a.source) limits g last (readings events) text tried)) (sym cut_is)
          (ran_more dialect _
          (λ x y p q. (
            listens_more dialect x y p q.0,
            subst (λ (l : List ℕ). IsCutBy dialect (w.owed a.source) limits g last l text tried) (sym (readings-append x y)) (cuts (readings y) (readings x) (subst (λ n. MayCut dialect (w.owed b.source) (solve_bound g.rules (before + 1) (story g)) limits n d.nodes (readings y) text why) (omega arith) q.1)),
          )) so.ran gone.looked.ran);
      is = is;
      spends = spends_wider (w.owed a.source) (w.owed d.source) (solves_bound g.rules (before + 1) (story g)) (solves_bound g.rules last (story g)) spends_next (solves_grow g.rules (before + 1) last (story g) le);
    }

    -- it was cut
    pub stopped_by : (why' : Cut) (taken first : List ℕ) → before + 1 ≤ last
        → MayCut dialect (w.owed b.source) (solve_bound g.rules (before + 1) (story g)) limits (solve_bound g.rules (before + 1) (story g)) d.nodes taken text (Some why')
        → CutsBy dialect (w.owed a.source) (solves_bound g.rules last (story g)) limits.quota limits.deadline (solve_bound g.rules (before + 1) (story g)) (first ++ taken) text why'
    stopped_by why' taken first le may =
        let more = solves_more g.rules before (story g) in
        let most = solves_grow g.rules (before + 1) last (story g) le in
        let n = solve_bound g.rules (before + 1) (story g) in
        cuts_wider dialect why' (w.owed a.source) (solves_bound g.rules before (story g) + n) (solves_bound g.rules last (story g)) limits.quota limits.deadline n n (first ++ taken) text (omega (arith, more, most)) (omega arith)
        (cuts_later dialect why' (w.owed a.source) (w.owed b.source) (solves_bound g.rules before (story g)) n limits.quota limits.deadline n first taken text so.spends
        (cuts_of_watch dialect why' (w.owed b.source) n limits n d.nodes taken text may))
