use Rattle.std.proofs.Common.{◌≡◌, inl, inr, ◌+◌, length, not, refl, ap, sym, ◌∙◌, subst, arith}
use Rattle.std.specs.Prelude.{neg_ℤ}
use Rattle.std.proofs.lemmas.Int.{ints, clamps}
use Rattle.foundation.specs.Member.{Member}
use Rattle.game_line.specs.Lined.{legal_in, story_of_line}
use Rattle.evaluation.specs.Values.{play, quiet, tree_size}
use Rattle.evaluation.proofs.GamesByRules.{play_laws}
use Rattle.evaluation.proofs.ScoreLaws.{quiet-ended}
use Rattle.evaluation.proofs.TreeLaws.{tree-some}
use Rattle.rules_model.specs.Games.{played}
use Rattle.rules_model.specs.Legal.{is_stuck}
use Rattle.legality.specs.Stance as Stance
use Rattle.watching.specs.declared.halt.Halt.{Halt}
use Rattle.negamax.specs.Trials.{Pushes}
use Rattle.negamax.specs.Settling.{Knows}
use Rattle.negamax.specs.Windows.{Bounds}
use Rattle.negamax.proofs.CopyLaws.{pushed-cut}
use Rattle.negamax.proofs.GoingLaws.{front_of, going_end, going_fits, going_legal, going_score, going_start}
use Rattle.negamax.proofs.HaltLaws.{halted}
use Rattle.negamax.proofs.NodeLaws.{all_fit, is_none, quiet_within, value_end, value_last}
use Rattle.negamax.proofs.last_ply.last_ply.Goals.{then-loop-best-test+else-len-first, else-loop-best-test}
use Rattle.negamax.proofs.last_ply.last_ply.Goals as goal

pub returns-in_err-enter-clause-ended : goal.returns-in_err-enter-clause-ended
returns-in_err-enter-clause-ended g c why is =
    let back = halted c.enter.result c.from_residual.result _ why c.in_err-enter.was c.from_residual.ensures.1 is in
    g.met.W.Watch.ends_wider _ _ _ _ why (c.enter.ensures.ended why back)
    (tree-some (play c.args.line.now.rules) 5 (story_of_line c.args.line.now))

pub returns-in-Some-clause-bounds : goal.returns-in-Some-clause-bounds
returns-in-Some-clause-bounds g c =
    let rules = c.args.line.now.rules in
    value_end (play rules) (play_laws rules) _ _ _ _ c.args.ply (story_of_line c.args.line.now) (sym c.end_where.ensures ∙ c.in-Some.is) 1
    (λ w. (let least = w.least in let most = w.most in omega (arith, ints)))

pub returns-in-Some-clause-within : goal.returns-in-Some-clause-within
returns-in-Some-clause-within g c =
    let rules = c.args.line.now.rules in
    let story = story_of_line c.args.line.now in
    let end = quiet-ended (play rules) 0 c.args.ply story _ (sym c.end_where.ensures ∙ c.in-Some.is) in
    let within = quiet_within (play rules) (play_laws rules) 0 c.args.ply story in
    let least = within.least in let most = within.most in
    record { least = omega (arith, ints, end); most = omega (arith, ints, end) }

pub returns-in-Some-clause-gone : goal.returns-in-Some-clause-gone
returns-in-Some-clause-gone g c =
    g.met.W.Watch.wider _ _ _ _ c.in_ok-enter.ensures.gone (tree-some (play c.args.line.now.rules) 5 (story_of_line c.args.line.now))

pub returns-in_err-any-clause-ended : goal.returns-in_err-any-clause-ended
returns-in_err-any-clause-ended g c why is =
    let rules = c.args.line.now.rules in
    let story = story_of_line c.args.line.now in
    let failed = halted c.push_moves.result c.from_residual-in_err-any.result _ why c.in_err-any.was c.from_residual-in_err-any.ensures.1 is in
    let back = c.push_moves.ensures.memory why failed in
    let all = g.met.W.Watch.wider _ _ _ _ c.in_ok-enter.ensures.gone (tree-some (play rules) 5 story) in
    subst (λ (w : Halt). g.W.Watch.ended c.args.watch.now c.enter.new.self (tree_size rules 5 story) w) (sym back) (g.met.W.Watch.memory _ _ _ all)

pub end_where-requires : goal.end_where-requires
end_where-requires g c = record { any = subst (λ s. c.in_ok-any.any ≡ not (is_stuck s.rules (Stance.repeat_in s))) c.board.ensures c.in_ok-any.ensures.any }

pub returns-in-Some-clause-waiting : goal.returns-in-Some-clause-waiting
returns-in-Some-clause-waiting g c =
    c.truncate.ensures.items
    ∙ pushed-cut _ c.len-first.result _ _ c.in_ok-any.ensures.pushes (let n = c.len-first.ensures in omega (arith, n))

pub loop-best-init : goal.loop-best-init
loop-best-init g c =
    let rules = c.args.line.now.rules in
    let story = story_of_line c.args.line.now in
    let on = sym c.end_where.ensures ∙ is_none _ c.in_default.not-Some in
    let listed = subst (λ s. Pushes (λ m. Member m (Stance.legal_in s)) c.args.state.now.waiting.items c.push_moves.new.self.waiting.items) c.board.ensures c.in_ok-any.ensures.pushes in
    record {
      line = refl;
      known = c.of-settling.ensures;
      first = (let n = c.len-first.ensures in omega (arith, n));
      going = going_start g.W.Watch.gone (legal_in c.args.line.now) (played rules story) (quiet (play rules) 4 (c.args.ply + 1))
          (tree_size rules 4) c.args.state.now.waiting.items c.args.window.alpha c.args.window.beta _ _ c.args.watch.now
          (legal_in c.args.line.now) c.enter.new.self c.push_moves.new.self.waiting.items _ listed
          (λ m h. h) (record { least = omega (arith, ints); most = omega (arith, ints) })
          (value_last (play rules) c.args.ply story on)
          c.in_ok-enter.ensures.gone (all_fit (play rules) 5 4 story (omega arith));
    }

pub returns-clause-bounds : goal.returns-clause-bounds
returns-clause-bounds g c =
    let old = c.loop-best.invariant in
    going_end _ _ _ _ _ _ _ _ _ _ _ _ _ _ old.going c.len-first.result old.first c.args.window.wide
    (elim c.loop-best-test.branch [
      | then-loop-best-test+else-len-first w ↦ inr (let n = w.len.ensures in let low = w.if-len-first.false in omega (arith, n, low))
      | else-loop-best-test w ↦ inl (let high = w.loop-best-test.false in grind (arith, ints, high))
    ])

pub returns-clause-gone : goal.returns-clause-gone
returns-clause-gone g c =
    let entered = c.loop-best.invariant.going.entered in
    g.met.W.Watch.wider _ _ _ _ entered.went (let fits = entered.fits in omega arith)

pub returns-clause-waiting : goal.returns-clause-waiting
returns-clause-waiting g c =
    let old = c.loop-best.invariant in
    c.leave.ensures ∙ c.truncate-2.ensures.items ∙ front_of _ _ _ _ _ _ _ _ _ _ _ _ _ _ old.going c.len-first.result old.first

pub returns-clause-within : goal.returns-clause-within
returns-clause-within g c = c.loop-best.invariant.going.trial.within

pub returns-clause-line : goal.returns-clause-line
returns-clause-line g c = c.loop-best.invariant.line

pub settle_or_search-requires-clause-legal : goal.settle_or_search-requires-clause-legal
settle_or_search-requires-clause-legal g c =
    let old = c.loop-best.invariant in
    subst (λ l. Member c.take_best-m.result (legal_in l)) (sym old.line)
    (going_legal _ _ _ _ _ _ _ _ _ _ _ _ _ _ old.going c.len-first.result _ _ old.first c.take_best-m.ensures.takes)

pub settle_or_search-requires-clause-known : goal.settle_or_search-requires-clause-known
settle_or_search-requires-clause-known g c =
    let old = c.loop-best.invariant in
    subst (λ l. Knows l c.loop-best.settling) (sym old.line) old.known

pub returns-in_err-score-clause-ended : goal.returns-in_err-score-clause-ended
returns-in_err-score-clause-ended g c why is =
    let old = c.loop-best.invariant in
    let m = c.take_best-m.result in
    let back = halted c.settle_or_search.result c.from_residual-in_err-score.result _ why c.in_err-score.was c.from_residual-in_err-score.ensures.1 is in
    let end = subst (λ l. g.W.Watch.ended c.loop-best.watch c.settle_or_search.new.watch (tree_size l.rules 4 (played l.rules (story_of_line l) m)) why) old.line
    (c.settle_or_search.ensures.ended why back) in
    g.met.W.Watch.ends_wider _ _ _ _ why (g.met.W.Watch.ends _ _ _ _ _ why old.going.entered.went end)
    (going_fits _ _ _ _ _ _ _ _ _ _ _ _ _ _ old.going c.len-first.result _ _ _ old.first c.take_best-m.ensures.takes refl)

pub loop-best-preserved : goal.loop-best-preserved
loop-best-preserved g c =
    let old = c.loop-best.invariant in
    let m = c.take_best-m.result in
    let found = c.in_ok-score.ensures in
    let went = subst (λ l. g.W.Watch.gone c.loop-best.watch c.settle_or_search.new.watch (tree_size l.rules 4 (played l.rules (story_of_line l) m))) old.line found.gone in
    let told = subst (λ l. Bounds c.above-asked.result.alpha c.above-asked.result.beta c.in_ok-score.score
    (neg_ℤ (quiet (play l.rules) 4 (c.args.ply + 1) (played l.rules (story_of_line l) m)))) old.line found.bounds in
    let is = c.greater-best.ensures.is in
    let b1 = old.going.trial.within.least in let b2 = old.going.trial.within.most in
    let s1 = found.within.least in let s2 = found.within.most in
    let r1 = c.greater-best.ensures.within.least in let r2 = c.greater-best.ensures.within.most in
    record {
      line = found.line ∙ old.line;
      known = subst (λ l. Knows l c.settle_or_search.new.settling) old.line found.known;
      first = old.first;
      going = going_score _ _ _ _ _ _ _ _ _ _ _ _ _ _ old.going c.len-first.result _ _ m c.settle_or_search.new.watch
          c.above-asked.result.alpha c.above-asked.result.beta c.in_ok-score.score _ old.first c.take_best-m.ensures.takes found.waiting g.met.W.Watch.more
          went told found.within c.above-asked.ensures.alpha c.above-asked.ensures.beta (omega (arith, ints, clamps));
    }

pub loop-best-smaller : goal.loop-best-smaller
loop-best-smaller g c =
    let same = ap length c.in_ok-score.ensures.waiting in
    let shorter = c.take_best-m.ensures.shorter in
    omega (arith, same, shorter)
