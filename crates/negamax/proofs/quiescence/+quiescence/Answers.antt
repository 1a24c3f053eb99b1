use Rattle.std.proofs.Common.{◌≡◌, inl, inr, ◌+◌, ◌-◌, [], ◌∷◌, length, not, refl, ap, sym, ◌∙◌, subst, arith}
use Rattle.std.specs.Prelude.{neg_ℤ}
use Rattle.std.proofs.lemmas.Int.{ints, clamps}
use Rattle.std.proofs.lemmas.List.{length-append}
use Rattle.foundation.specs.Member.{Member}
use Rattle.foundation.proofs.Members.{filter-member}
use Rattle.game_line.specs.Lined.{legal_in, shorter, stance_of_line, story_of_line}
use Rattle.game_line.proofs.LineLaws.{shorter-pushed}
use Rattle.evaluation.specs.Tallies.{IsTally}
use Rattle.evaluation.specs.Values.{greatest, play, quiet, tree_size}
use Rattle.evaluation.proofs.GamesByRules.{play_laws}
use Rattle.evaluation.proofs.ScoreLaws.{quiet-ended}
use Rattle.evaluation.proofs.TreeLaws.{tree-some}
use Rattle.rules_model.specs.Games.{played}
use Rattle.rules_model.specs.Legal.{is_stuck}
use Rattle.legality.specs.Stance.{repeat_in}
use Rattle.rules_model.specs.Next as Next
use Rattle.rules_model.specs.Repeats.{repeat_of}
use Rattle.watching.specs.declared.halt.Halt.{Halt}
use mir.Val.{to_z, of_z}
use mir.Syntax.{w32}
use Rattle.negamax.specs.Trials.{captures_in, Pushes}
use Rattle.negamax.specs.Settling.{Knows}
use Rattle.negamax.specs.Windows.{Bounds}
use Rattle.negamax.proofs.CopyLaws.{pushed-cut}
use Rattle.negamax.proofs.GoingLaws.{front_of, going_end, going_fits, going_legal, going_score, going_start}
use Rattle.negamax.proofs.HaltLaws.{halted}
use Rattle.negamax.proofs.NodeLaws.{is_none, part_fits, quiet_end, quiet_on, quiet_rests, quiet_within}
use Rattle.negamax.proofs.WindowLaws.{below, flip, reframe}
use Rattle.negamax.proofs.quiescence.+quiescence.Goals.{quiescence-then-limit-eq0-via-then-limit-eq0, quiescence-then-limit-eq0-via-else-limit-eq0+then-best-window, quiescence-then-loop-best-test+else-len-first, quiescence-else-loop-best-test}
use Rattle.negamax.proofs.quiescence.+quiescence.Goals as goal

pub quiescence-returns-in_err-enter-clause-ended : goal.quiescence-returns-in_err-enter-clause-ended
quiescence-returns-in_err-enter-clause-ended g t c why is =
    let back = halted c.enter.result c.from_residual.result _ why c.in_err-enter.was c.from_residual.ensures.1 is in
    g.met.W.Watch.ends_wider _ _ _ _ why (c.enter.ensures.ended why back)
    (tree-some (play c.args.line.now.rules) c.args.limit (story_of_line c.args.line.now))

pub quiescence-returns-then-limit-eq0-clause-bounds : goal.quiescence-returns-then-limit-eq0-clause-bounds
quiescence-returns-then-limit-eq0-clause-bounds g t c =
    let rules = c.args.line.now.rules in
    let is = c.stand_pat-best.ensures.is in
    let within = c.stand_pat-best.ensures.within in let least = within.least in let most = within.most in
    let rests = c.resting.ensures.within in let low = rests.least in let high = rests.most in
    let value = c.resting.ensures.is in
    quiet_rests (play rules) (play_laws rules) _ _ _ c.args.limit c.args.ply (story_of_line c.args.line.now) (omega (arith, ints, value)) c.args.window.wide
    (elim c.then-limit-eq0.branch [
      | quiescence-then-limit-eq0-via-then-limit-eq0 w ↦ inl (let none = w.if-limit-eq0.true in omega (arith, none))
      | quiescence-then-limit-eq0-via-else-limit-eq0+then-best-window w ↦ inr (let cut = w.if-best-window.true in omega (arith, ints))
    ])

pub quiescence-returns-then-limit-eq0-clause-gone : goal.quiescence-returns-then-limit-eq0-clause-gone
quiescence-returns-then-limit-eq0-clause-gone g t c =
    g.met.W.Watch.wider _ _ _ _ c.in_ok-enter.ensures.gone (tree-some (play c.args.line.now.rules) c.args.limit (story_of_line c.args.line.now))

pub quiescence-returns-in-Some-clause-within : goal.quiescence-returns-in-Some-clause-within
quiescence-returns-in-Some-clause-within g t c =
    let rules = c.args.line.now.rules in
    let story = story_of_line c.args.line.now in
    let end = quiet-ended (play rules) c.args.limit c.args.ply story _ (sym c.end_where.ensures ∙ c.in-Some.is) in
    let within = quiet_within (play rules) (play_laws rules) c.args.limit c.args.ply story in
    let least = within.least in let most = within.most in
    record { least = omega (arith, ints, end); most = omega (arith, ints, end) }

pub quiescence-returns-in-Some-clause-bounds : goal.quiescence-returns-in-Some-clause-bounds
quiescence-returns-in-Some-clause-bounds g t c =
    let rules = c.args.line.now.rules in
    quiet_end (play rules) (play_laws rules) _ _ _ _ c.args.ply (story_of_line c.args.line.now) (sym c.end_where.ensures ∙ c.in-Some.is) c.args.limit
    (λ w. (let least = w.least in let most = w.most in omega (arith, ints)))

pub quiescence-returns-in-Some-clause-gone : goal.quiescence-returns-in-Some-clause-gone
quiescence-returns-in-Some-clause-gone g t c =
    g.met.W.Watch.wider _ _ _ _ c.in_ok-enter.ensures.gone (tree-some (play c.args.line.now.rules) c.args.limit (story_of_line c.args.line.now))

pub quiescence-returns-in-Some-clause-waiting : goal.quiescence-returns-in-Some-clause-waiting
quiescence-returns-in-Some-clause-waiting g t c =
    c.truncate.ensures.items
    ∙ pushed-cut _ c.len-first.result _ _ c.in_ok-any.ensures.pushes (let n = c.len-first.ensures in omega (arith, n))

pub quiescence-end_where-requires : goal.quiescence-end_where-requires
quiescence-end_where-requires g t c = record { any = subst (λ s. c.in_ok-any.any ≡ not (is_stuck s.rules (repeat_in s))) c.board.ensures c.in_ok-any.ensures.any }

pub quiescence-returns-in_err-any-clause-ended : goal.quiescence-returns-in_err-any-clause-ended
quiescence-returns-in_err-any-clause-ended g t c why is =
    let rules = c.args.line.now.rules in
    let story = story_of_line c.args.line.now in
    let failed = halted c.push_captures.result c.from_residual-in_err-any.result _ why c.in_err-any.was c.from_residual-in_err-any.ensures.1 is in
    let back = c.push_captures.ensures.memory why failed in
    let all = g.met.W.Watch.wider _ _ _ _ c.in_ok-enter.ensures.gone (tree-some (play rules) c.args.limit story) in
    subst (λ (w : Halt). g.W.Watch.ended c.args.watch.now c.enter.new.self (tree_size rules c.args.limit story) w) (sym back) (g.met.W.Watch.memory _ _ _ all)

pub quiescence-loop-best-init : goal.quiescence-loop-best-init
quiescence-loop-best-init g t c =
    let rules = c.args.line.now.rules in
    let story = story_of_line c.args.line.now in
    let takes = Next.captures rules (repeat_of story.last) in
    let on = sym c.end_where.ensures ∙ is_none _ c.in_default.not-Some in
    let is = c.stand_pat-best.ensures.is in
    let within = c.stand_pat-best.ensures.within in let least = within.least in let most = within.most in
    let listed = subst (λ s. Pushes (λ m. Member m (captures_in s)) c.args.state.now.waiting.items c.push_captures.new.self.waiting.items) c.board.ensures c.in_ok-any.ensures.pushes in
    let stands : (play rules).eval story ≡ to_z w32 (of_z w32 c.stand_pat-best.result) = omega (arith, ints) in
    record {
      line = refl;
      known = c.of-settling.ensures;
      first = (let n = c.len-first.ensures in omega (arith, n));
      going = going_start g.W.Watch.gone (legal_in c.args.line.now) (played rules story) (quiet (play rules) (c.args.limit - 1) (c.args.ply + 1))
          (tree_size rules (c.args.limit - 1)) c.args.state.now.waiting.items c.args.window.alpha c.args.window.beta _ _ c.args.watch.now
          (captures_in (stance_of_line c.args.line.now)) c.enter.new.self c.push_captures.new.self.waiting.items _ listed
          (λ m h. (filter-member takes m (legal_in c.args.line.now) h).0) (record { least = omega (arith, ints); most = omega (arith, ints) })
          (quiet_on (play rules) c.args.limit c.args.ply story on (omega arith)
          ∙ ap (λ z. greatest z (λ m. neg_ℤ (quiet (play rules) (c.args.limit - 1) (c.args.ply + 1) (played rules story m))) (captures_in (stance_of_line c.args.line.now))) stands)
          c.in_ok-enter.ensures.gone (part_fits (play rules) takes c.args.limit (c.args.limit - 1) story (omega arith));
    }

pub quiescence-returns-clause-bounds : goal.quiescence-returns-clause-bounds
quiescence-returns-clause-bounds g t c =
    let old = c.loop-best.invariant in
    going_end _ _ _ _ _ _ _ _ _ _ _ _ _ _ old.going c.len-first.result old.first c.args.window.wide
    (elim c.loop-best-test.branch [
      | quiescence-then-loop-best-test+else-len-first w ↦ inr (let n = w.len.ensures in let low = w.if-len-first.false in omega (arith, n, low))
      | quiescence-else-loop-best-test w ↦ inl (let high = w.loop-best-test.false in grind (arith, ints, high))
    ])

pub quiescence-returns-clause-gone : goal.quiescence-returns-clause-gone
quiescence-returns-clause-gone g t c =
    let entered = c.loop-best.invariant.going.entered in
    g.met.W.Watch.wider _ _ _ _ entered.went (let fits = entered.fits in omega arith)

pub quiescence-returns-clause-waiting : goal.quiescence-returns-clause-waiting
quiescence-returns-clause-waiting g t c =
    let old = c.loop-best.invariant in
    c.truncate-2.ensures.items ∙ front_of _ _ _ _ _ _ _ _ _ _ _ _ _ _ old.going c.len-first.result old.first

pub quiescence-returns-clause-within : goal.quiescence-returns-clause-within
quiescence-returns-clause-within g t c = c.loop-best.invariant.going.trial.within

pub quiescence-returns-clause-line : goal.quiescence-returns-clause-line
quiescence-returns-clause-line g t c = c.loop-best.invariant.line

pub quiescence-settle_or_search-requires : goal.quiescence-settle_or_search-requires
quiescence-settle_or_search-requires g t c κs within =
    let old = c.loop-best.invariant in
    let line = sym old.line in
    let values = c.requires.values ∙ ap (λ l. l.rules) line in
    let tally = subst (λ l. IsTally l.rules (story_of_line l).last c.args.tally) line c.requires.tally in
    let known = subst (λ l. Knows l c.loop-best.settling) line old.known in
    let legal = subst (λ l. Member c.take_best-m.result (legal_in l)) line
    (going_legal _ _ _ _ _ _ _ _ _ _ _ _ _ _ old.going c.len-first.result _ _ old.first c.take_best-m.ensures.takes) in
    let moves = ap (λ l. length l.moves) line in
    let room = ap (λ l. l.room) line in
    let fits = c.requires.room in
    let near = c.requires.plies in
    (let d = c.decreases in omega arith, (within, (values, (tally, (known, (legal, (omega arith, omega arith)))))))

pub quiescence-returns-in_err-score-clause-ended : goal.quiescence-returns-in_err-score-clause-ended
quiescence-returns-in_err-score-clause-ended g t c why is =
    let old = c.loop-best.invariant in
    let m = c.take_best-m.result in
    let back = halted c.settle_or_search.result c.from_residual-in_err-score.result _ why c.in_err-score.was c.from_residual-in_err-score.ensures.1 is in
    let end = subst (λ l. g.W.Watch.ended c.loop-best.watch c.settle_or_search.new.watch (tree_size l.rules (c.args.limit - 1) (played l.rules (story_of_line l) m)) why) old.line
    (c.settle_or_search.ensures.ended why back) in
    g.met.W.Watch.ends_wider _ _ _ _ why (g.met.W.Watch.ends _ _ _ _ _ why old.going.entered.went end)
    (going_fits _ _ _ _ _ _ _ _ _ _ _ _ _ _ old.going c.len-first.result _ _ _ old.first c.take_best-m.ensures.takes refl)

pub quiescence-loop-best-preserved : goal.quiescence-loop-best-preserved
quiescence-loop-best-preserved g t c =
    let old = c.loop-best.invariant in
    let m = c.take_best-m.result in
    let found = c.in_ok-score.ensures in
    let went = subst (λ l. g.W.Watch.gone c.loop-best.watch c.settle_or_search.new.watch (tree_size l.rules (c.args.limit - 1) (played l.rules (story_of_line l) m))) old.line found.gone in
    let told = subst (λ l. Bounds c.above-asked.result.alpha c.above-asked.result.beta c.in_ok-score.score
    (neg_ℤ (quiet (play l.rules) (c.args.limit - 1) (c.args.ply + 1) (played l.rules (story_of_line l) m)))) old.line found.bounds in
    let is = c.greater-best.ensures.is in
    let b1 = old.going.trial.within.least in let b2 = old.going.trial.within.most in
    let s1 = found.within.least in let s2 = found.within.most in
    let r1 = c.greater-best.ensures.within.least in let r2 = c.greater-best.ensures.within.most in
    record {
      line = found.line ∙ old.line;
      known = subst (λ l. Knows l c.settle_or_search.new.settling) old.line found.known;
      first = old.first;
      going = going_score _ _ _ _ _ _ _ _ _ _ _ _ _ _ old.going c.len-first.result _ _ m c.settle_or_search.new.watch
          c.above-asked.result.alpha c.above-asked.result.beta c.in_ok-score.score _ old.first c.take_best-m.ensures.takes found.waiting g.met.W.Watch.more
          went told found.within c.above-asked.ensures.alpha c.above-asked.ensures.beta (omega (arith, ints, clamps));
    }

pub quiescence-loop-best-smaller : goal.quiescence-loop-best-smaller
quiescence-loop-best-smaller g t c =
    let same = ap length c.in_ok-score.ensures.waiting in
    let shorter = c.take_best-m.ensures.shorter in
    omega (arith, same, shorter)

-- ---- one move

pub settle_or_search-returns-in-Some-clause-bounds : goal.settle_or_search-returns-in-Some-clause-bounds
settle_or_search-returns-in-Some-clause-bounds g t c =
    let told = c.in-Some.ensures in
    let w1 = told.within.least in let w2 = told.within.most in
    let low = told.low in
    let most = told.most c.args.limit (c.args.ply + 1) in
    below _ _ _ _ (omega (arith, ints)) (omega (arith, ints))

pub settle_or_search-returns-in-Some-clause-gone : goal.settle_or_search-returns-in-Some-clause-gone
settle_or_search-returns-in-Some-clause-gone g t c = g.met.W.Watch.wider _ _ _ _ (g.met.W.Watch.none c.args.watch.now) (omega arith)

pub settle_or_search-quiescence-requires : goal.settle_or_search-quiescence-requires
settle_or_search-quiescence-requires g t c κs within =
    let line = c.put.ensures.line in
    let values = c.requires.values ∙ ap (λ l. l.rules) (sym line) in
    let tally = c.put.ensures.sums _ c.sums_after-sums.ensures in
    let moves = ap (λ l. length l.moves) line in
    let more = length-append c.args.line.now.moves (c.args.m.now ∷ []) in
    let room = ap (λ l. l.room) line in
    let fits = c.requires.room in
    let near = c.requires.plies in
    (let d = c.decreases in omega arith, (within, (values, (tally, (omega arith, omega arith)))))

pub settle_or_search-returns-clause-bounds : goal.settle_or_search-returns-clause-bounds
settle_or_search-returns-clause-bounds g t c =
    let line = c.args.line.now in
    let found = c.in_ok-found.ensures in
    let y = story_of_line c.put.new.line in
    let same = ap (λ l. l.rules) c.put.ensures.line in
    let told = subst (λ r. Bounds c.turned-asked.result.alpha c.turned-asked.result.beta c.in_ok-found.found (quiet (play r) c.args.limit (c.args.ply + 1) y)) same found.bounds in
    let at = subst (λ z. Bounds c.turned-asked.result.alpha c.turned-asked.result.beta c.in_ok-found.found (quiet (play line.rules) c.args.limit (c.args.ply + 1) z)) c.put.ensures.story told in
    let least = found.within.least in let most = found.within.most in
    let seen = reframe _ _ _ _ (neg_ℤ c.args.window.beta) (neg_ℤ c.args.window.alpha) c.in_ok-found.found at (sym c.turned-asked.ensures.alpha) (sym c.turned-asked.ensures.beta) refl in
    reframe _ _ _ _ _ _ _ (flip c.args.window.alpha c.args.window.beta c.in_ok-found.found _ seen) refl refl (omega (arith, ints))

pub settle_or_search-returns-clause-within : goal.settle_or_search-returns-clause-within
settle_or_search-returns-clause-within g t c =
    let found = c.in_ok-found.ensures in
    let least = found.within.least in let most = found.within.most in
    record { least = omega (arith, ints); most = omega (arith, ints) }

pub settle_or_search-returns-clause-gone : goal.settle_or_search-returns-clause-gone
settle_or_search-returns-clause-gone g t c =
    let same = ap (λ l. l.rules) c.put.ensures.line in
    let went = subst (λ r. g.W.Watch.gone c.args.watch.now c.quiescence.new.watch (tree_size r c.args.limit (story_of_line c.put.new.line))) same c.in_ok-found.ensures.gone in
    subst (λ z. g.W.Watch.gone c.args.watch.now c.quiescence.new.watch (tree_size c.args.line.now.rules c.args.limit z)) c.put.ensures.story went

pub settle_or_search-returns-clause-line : goal.settle_or_search-returns-clause-line
settle_or_search-returns-clause-line g t c =
    c.back.ensures ∙ ap shorter (c.in_ok-found.ensures.line ∙ c.put.ensures.line) ∙ shorter-pushed c.args.line.now c.args.m.now

pub settle_or_search-returns-in_err-found-clause-ended : goal.settle_or_search-returns-in_err-found-clause-ended
settle_or_search-returns-in_err-found-clause-ended g t c why is =
    let same = ap (λ l. l.rules) c.put.ensures.line in
    let back = halted c.quiescence.result c.from_residual.result _ why c.in_err-found.was c.from_residual.ensures.1 is in
    let end = subst (λ r. g.W.Watch.ended c.args.watch.now c.quiescence.new.watch (tree_size r c.args.limit (story_of_line c.put.new.line)) why) same (c.quiescence.ensures.ended why back) in
    subst (λ z. g.W.Watch.ended c.args.watch.now c.quiescence.new.watch (tree_size c.args.line.now.rules c.args.limit z) why) c.put.ensures.story end
