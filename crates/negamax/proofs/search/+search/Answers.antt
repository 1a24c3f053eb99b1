use Rattle.std.proofs.Common.{◌≡◌, inl, inr, ◌+◌, ◌-◌, length, not, IfOk, OnOk, refl, ap, sym, ◌∙◌, subst, arith}
use Rattle.std.specs.Prelude.{neg_ℤ}
use Rattle.std.specs.Int.{int_max}
use Rattle.std.proofs.lemmas.Int.{ints, clamps}
use Rattle.foundation.specs.Member.{Member}
use Rattle.game_line.specs.Lined.{legal_in, pushed, shorter, story_of_line}
use Rattle.game_line.proofs.LineLaws.{shorter-pushed}
use Rattle.evaluation.specs.Values.{play, tree_size, value}
use Rattle.evaluation.proofs.GamesByRules.{play_laws}
use Rattle.evaluation.proofs.ScoreLaws.{quiet-ended}
use Rattle.evaluation.proofs.TreeLaws.{tree-some}
use Rattle.rules_model.specs.Games.{played}
use Rattle.rules_model.specs.Legal.{is_stuck}
use Rattle.legality.specs.Stance as Stance
use Rattle.watching.specs.declared.halt.Halt.{Halt}
use mir.Val.{to_z, of_z}
use mir.Syntax.{w32}
use Rattle.negamax.specs.Trials.{Pushes}
use Rattle.negamax.specs.Windows.{Bounds}
use Rattle.negamax.proofs.CopyLaws.{pushed-cut}
use Rattle.negamax.proofs.GoingLaws.{front_of, going_end, going_fits, going_legal, going_next, going_start}
use Rattle.negamax.proofs.HaltLaws.{halted}
use Rattle.negamax.proofs.NodeLaws.{all_fit, is_none, quiet_within, value_end, value_on, value_resting}
use Rattle.negamax.proofs.WindowLaws.{reframe}
use Rattle.negamax.proofs.search.+search.Goals.{then-loop-best-test+else-len-first, else-loop-best-test}
use Rattle.negamax.proofs.search.+search.Goals as goal

pub returns-in_err-resting-clause-ended : goal.returns-in_err-resting-clause-ended
returns-in_err-resting-clause-ended g t c why is =
    let last : 4 ≡ c.args.depth + 4 = omega arith in
    let back = halted c.quiescence.result c.from_residual.result _ why c.in_err-resting.was c.from_residual.ensures.1 is in
    subst (λ n. g.W.Watch.ended c.args.watch.now c.quiescence.new.watch (tree_size c.args.line.now.rules n (story_of_line c.args.line.now)) why) last
    (c.quiescence.ensures.ended why back)

pub returns-then-depth-eq0-clause-bounds : goal.returns-then-depth-eq0-clause-bounds
returns-then-depth-eq0-clause-bounds g t c =
    let found = c.in_ok-resting.ensures in
    let least = found.within.least in let most = found.within.most in
    reframe _ _ _ _ _ _ _ (value_resting (play c.args.line.now.rules) _ _ _ c.args.depth c.args.ply (story_of_line c.args.line.now) (omega arith) found.bounds)
    refl refl (omega (arith, ints))

pub returns-then-depth-eq0-clause-gone : goal.returns-then-depth-eq0-clause-gone
returns-then-depth-eq0-clause-gone g t c =
    let last : 4 ≡ c.args.depth + 4 = omega arith in
    subst (λ n. g.W.Watch.gone c.args.watch.now c.quiescence.new.watch (tree_size c.args.line.now.rules n (story_of_line c.args.line.now))) last
    c.in_ok-resting.ensures.gone

pub returns-then-depth-eq1-clause-bounds : goal.returns-then-depth-eq1-clause-bounds
returns-then-depth-eq1-clause-bounds g t c =
    let last : 1 ≡ c.args.depth = omega arith in
    subst (λ n. IfOk c.last_ply.result (λ v. Bounds c.args.window.alpha c.args.window.beta v (value (play c.args.line.now.rules) n c.args.ply (story_of_line c.args.line.now)))) last
    c.last_ply.ensures.bounds

pub returns-then-depth-eq1-clause-gone : goal.returns-then-depth-eq1-clause-gone
returns-then-depth-eq1-clause-gone g t c =
    let last : 5 ≡ c.args.depth + 4 = omega arith in
    subst (λ n. OnOk c.last_ply.result (g.W.Watch.gone c.args.watch.now c.last_ply.new.watch (tree_size c.args.line.now.rules n (story_of_line c.args.line.now)))) last
    c.last_ply.ensures.gone

pub returns-then-depth-eq1-clause-ended : goal.returns-then-depth-eq1-clause-ended
returns-then-depth-eq1-clause-ended g t c why is =
    let last : 5 ≡ c.args.depth + 4 = omega arith in
    subst (λ n. g.W.Watch.ended c.args.watch.now c.last_ply.new.watch (tree_size c.args.line.now.rules n (story_of_line c.args.line.now)) why) last
    (c.last_ply.ensures.ended why is)

pub returns-in_err-enter-clause-ended : goal.returns-in_err-enter-clause-ended
returns-in_err-enter-clause-ended g t c why is =
    let back = halted c.enter.result c.from_residual-in_err-enter.result _ why c.in_err-enter.was c.from_residual-in_err-enter.ensures.1 is in
    g.met.W.Watch.ends_wider _ _ _ _ why (c.enter.ensures.ended why back)
    (tree-some (play c.args.line.now.rules) (c.args.depth + 4) (story_of_line c.args.line.now))

pub returns-in-Some-clause-bounds : goal.returns-in-Some-clause-bounds
returns-in-Some-clause-bounds g t c =
    let rules = c.args.line.now.rules in
    value_end (play rules) (play_laws rules) _ _ _ _ c.args.ply (story_of_line c.args.line.now) (sym c.end_where.ensures ∙ c.in-Some.is) c.args.depth
    (λ w. (let least = w.least in let most = w.most in omega (arith, ints)))

pub returns-in-Some-clause-within : goal.returns-in-Some-clause-within
returns-in-Some-clause-within g t c =
    let rules = c.args.line.now.rules in
    let story = story_of_line c.args.line.now in
    let end = quiet-ended (play rules) 0 c.args.ply story _ (sym c.end_where.ensures ∙ c.in-Some.is) in
    let within = quiet_within (play rules) (play_laws rules) 0 c.args.ply story in
    let least = within.least in let most = within.most in
    record { least = omega (arith, ints, end); most = omega (arith, ints, end) }

pub returns-in-Some-clause-gone : goal.returns-in-Some-clause-gone
returns-in-Some-clause-gone g t c =
    g.met.W.Watch.wider _ _ _ _ c.in_ok-enter.ensures.gone (tree-some (play c.args.line.now.rules) (c.args.depth + 4) (story_of_line c.args.line.now))

pub returns-in_err-any-clause-ended : goal.returns-in_err-any-clause-ended
returns-in_err-any-clause-ended g t c why is =
    let rules = c.args.line.now.rules in
    let story = story_of_line c.args.line.now in
    let failed = halted c.push_moves.result c.from_residual-in_err-any.result _ why c.in_err-any.was c.from_residual-in_err-any.ensures.1 is in
    let back = c.push_moves.ensures.memory why failed in
    let all = g.met.W.Watch.wider _ _ _ _ c.in_ok-enter.ensures.gone (tree-some (play rules) (c.args.depth + 4) story) in
    subst (λ (w : Halt). g.W.Watch.ended c.args.watch.now c.enter.new.self (tree_size rules (c.args.depth + 4) story) w) (sym back) (g.met.W.Watch.memory _ _ _ all)

pub end_where-requires : goal.end_where-requires
end_where-requires g t c = record { any = subst (λ s. c.in_ok-any.any ≡ not (is_stuck s.rules (Stance.repeat_in s))) c.board.ensures c.in_ok-any.ensures.any }

pub returns-in-Some-clause-waiting : goal.returns-in-Some-clause-waiting
returns-in-Some-clause-waiting g t c =
    c.truncate.ensures.items
    ∙ pushed-cut _ c.len-first.result _ _ c.in_ok-any.ensures.pushes (let n = c.len-first.ensures in omega (arith, n))

pub loop-best-init : goal.loop-best-init
loop-best-init g t c =
    let rules = c.args.line.now.rules in
    let story = story_of_line c.args.line.now in
    let on = sym c.end_where.ensures ∙ is_none _ c.in_default.not-Some in
    let listed = subst (λ s. Pushes (λ m. Member m (Stance.legal_in s)) c.args.state.now.waiting.items c.push_moves.new.self.waiting.items) c.board.ensures c.in_ok-any.ensures.pushes in
    record {
      line = refl;
      first = (let n = c.len-first.ensures in omega (arith, n));
      going = going_start g.W.Watch.gone (legal_in c.args.line.now) (played rules story) (value (play rules) (c.args.depth - 1) (c.args.ply + 1))
          (tree_size rules (c.args.depth - 1 + 4)) c.args.state.now.waiting.items c.args.window.alpha c.args.window.beta _ _ c.args.watch.now
          (legal_in c.args.line.now) c.enter.new.self c.push_moves.new.self.waiting.items _ listed
          (λ m h. h) (record { least = omega (arith, ints); most = omega (arith, ints) })
          (value_on (play rules) c.args.depth c.args.ply story on (omega arith))
          c.in_ok-enter.ensures.gone (all_fit (play rules) (c.args.depth + 4) (c.args.depth - 1 + 4) story (omega arith));
    }

pub play-next-requires-clause-legal : goal.play-next-requires-clause-legal
play-next-requires-clause-legal g t c =
    let old = c.loop-best.invariant in
    subst (λ l. Member c.take_best-m.result (legal_in l)) (sym old.line)
    (going_legal _ _ _ _ _ _ _ _ _ _ _ _ _ _ old.going c.len-first.result _ _ old.first c.take_best-m.ensures.takes)

pub returns-in_err-found-clause-ended : goal.returns-in_err-found-clause-ended
returns-in_err-found-clause-ended g t c why is =
    let old = c.loop-best.invariant in
    let y = story_of_line c.play-next.new.line in
    let back = halted c.search.result c.from_residual-in_err-found.result _ why c.in_err-found.was c.from_residual-in_err-found.ensures.1 is in
    let same = ap (λ l. l.rules) (c.play-next.ensures.line ∙ ap (λ l. pushed l c.take_best-m.result) old.line) in
    let at = c.play-next.ensures.story ∙ ap (λ l. played l.rules (story_of_line l) c.take_best-m.result) old.line in
    let end = subst (λ r. g.W.Watch.ended c.loop-best.watch c.search.new.watch (tree_size r (c.args.depth - 1 + 4) y) why) same (c.search.ensures.ended why back) in
    g.met.W.Watch.ends_wider _ _ _ _ why (g.met.W.Watch.ends _ _ _ _ _ why old.going.entered.went end)
    (going_fits _ _ _ _ _ _ _ _ _ _ _ _ _ _ old.going c.len-first.result _ _ y old.first c.take_best-m.ensures.takes at)

pub loop-best-preserved : goal.loop-best-preserved
loop-best-preserved g t c =
    let rules = c.args.line.now.rules in
    let old = c.loop-best.invariant in
    let found = c.in_ok-found.ensures in
    let y = story_of_line c.play-next.new.line in
    let gone_on = c.play-next.ensures.line ∙ ap (λ l. pushed l c.take_best-m.result) old.line in
    let same = ap (λ l. l.rules) gone_on in
    let at = c.play-next.ensures.story ∙ ap (λ l. played l.rules (story_of_line l) c.take_best-m.result) old.line in
    let went = subst (λ r. g.W.Watch.gone c.loop-best.watch c.search.new.watch (tree_size r (c.args.depth - 1 + 4) y)) same found.gone in
    let told = subst (λ r. Bounds c.of_reply.result.alpha c.of_reply.result.beta c.in_ok-found.found (value (play r) (c.args.depth - 1) (c.args.ply + 1) y)) same found.bounds in
    let least = found.within.least in let most = found.within.most in
    let b1 = old.going.trial.within.least in let b2 = old.going.trial.within.most in
    let larger : c.raised-best.result ≡ int_max (to_z w32 c.loop-best.best-bits) (neg_ℤ (to_z w32 (of_z w32 c.in_ok-found.found))) = c.raised-best.ensures.is in
    let r1 = c.raised-best.ensures.within.least in let r2 = c.raised-best.ensures.within.most in
    record {
      line = c.back.ensures ∙ ap shorter (found.line ∙ gone_on) ∙ shorter-pushed c.args.line.now c.take_best-m.result;
      first = old.first;
      going = going_next _ _ _ _ _ _ _ _ _ _ _ _ _ _ old.going c.len-first.result _ _ c.take_best-m.result y c.search.new.watch
          c.of_reply.result.alpha c.of_reply.result.beta c.in_ok-found.found _ old.first c.take_best-m.ensures.takes found.waiting at g.met.W.Watch.more
          went told found.within c.of_reply.ensures.alpha c.of_reply.ensures.beta (omega (arith, ints, clamps));
    }

pub loop-best-smaller : goal.loop-best-smaller
loop-best-smaller g t c =
    let same = ap length c.in_ok-found.ensures.waiting in
    let shorter = c.take_best-m.ensures.shorter in
    omega (arith, same, shorter)

pub returns-clause-bounds : goal.returns-clause-bounds
returns-clause-bounds g t c =
    let old = c.loop-best.invariant in
    going_end _ _ _ _ _ _ _ _ _ _ _ _ _ _ old.going c.len-first.result old.first c.args.window.wide
    (elim c.loop-best-test.branch [
      | then-loop-best-test+else-len-first w ↦ inr (let n = w.len.ensures in let low = w.if-len-first.false in omega (arith, n, low))
      | else-loop-best-test w ↦ inl (let high = w.loop-best-test.false in grind (arith, ints, high))
    ])

pub returns-clause-gone : goal.returns-clause-gone
returns-clause-gone g t c =
    let entered = c.loop-best.invariant.going.entered in
    g.met.W.Watch.wider _ _ _ _ entered.went (let fits = entered.fits in omega arith)

pub returns-clause-waiting : goal.returns-clause-waiting
returns-clause-waiting g t c =
    let old = c.loop-best.invariant in
    c.leave.ensures ∙ c.truncate-2.ensures.items ∙ front_of _ _ _ _ _ _ _ _ _ _ _ _ _ _ old.going c.len-first.result old.first

pub returns-clause-within : goal.returns-clause-within
returns-clause-within g t c = c.loop-best.invariant.going.trial.within

pub returns-clause-line : goal.returns-clause-line
returns-clause-line g t c = c.loop-best.invariant.line
