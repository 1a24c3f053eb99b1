use Rattle.std.proofs.Common.{◌≡◌, ◌+◌, ◌*◌, ◌-◌, ◌<◌, ◌≤◌, ◌∙◌, ℕ, Err, get_or, length, ap, not, refl, rules, subst, sym, arith}
use Rattle.std.proofs.lemmas.Int.{ints}
use Rattle.std.specs.List.{All}
use Rattle.std.specs.List.Sorted.{IsPermutation}
use Rattle.foundation.specs.Member.{Member}
use Rattle.rules_model.specs.Legal.{is_stuck}
use Rattle.rules_model.specs.Repeats.{repeat_of}
use Rattle.alpha_beta.specs.Workers.{most_nodes}
use Rattle.game_line.specs.Lined.{legal_in, shorter, story_of_line}
use Rattle.game_line.proofs.LineLaws.{shorter-pushed, story-pushed}
use Rattle.std.specs.Prelude.{ℤ, pos, ◌-ℤ◌}
use Rattle.evaluation.specs.Values.{greatest, play, tree_size, value}
use Rattle.evaluation.proofs.ScoreLaws.{quiet-ended}
use Rattle.evaluation.proofs.GamesByRules.{play_laws}
use Rattle.evaluation.proofs.TreeLaws.{tree-some}
use Rattle.io_ports.specs.declared.limits.SearchFault.TheVariants as fault
use Rattle.watching.specs.declared.halt.Halt.{Halt}
use Rattle.watching.specs.declared.halt.Halt.TheVariants as halt
use mir.Val.{to_z, of_z}
use mir.Syntax.{w32}
use Rattle.negamax.specs.declared.facts.Best.{Best}
use Rattle.negamax.specs.RootFacts.{score_of}
use Rattle.negamax.specs.Windows.{Bounds}
use Rattle.negamax.proofs.HaltLaws.{halted}
use Rattle.negamax.proofs.NodeLaws.{is_none, quiet_within, value_end}
use Rattle.negamax.proofs.RootLaws.{no_move, root_lines, score-bounds}
use Rattle.negamax.proofs.WindowLaws.{reframe}
use Rattle.alpha_beta.proofs.LeftLaws.{all_legal, all_others, first_and_others, left-bounds, lines-listed, others, permuted_legal, some_legal}
use Rattle.alpha_beta.specs.Roots as Roots
use Rattle.alpha_beta.proofs.left.+left.Goals as goal

pub returns-in_err-enter-clause-ended : goal.returns-in_err-enter-clause-ended
returns-in_err-enter-clause-ended g t c why is =
    let back : c.enter.result ≡ Err why = search rules in
    let some = tree-some (play c.args.line.now.rules) (c.args.depth + 4) (story_of_line c.args.line.now) in
    g.met.W.Watch.ends_wider _ _ _ _ why (c.enter.ensures.ended why back) (omega (arith, some))

pub returns-in_err-listed-clause-ended : goal.returns-in_err-listed-clause-ended
returns-in_err-listed-clause-ended g t c why is =
    let n : ℕ = 2 * tree_size c.args.line.now.rules (c.args.depth + 4) (story_of_line c.args.line.now) in
    let same : halt.Fault fault.Memory ≡ why = search rules in
    let some = tree-some (play c.args.line.now.rules) (c.args.depth + 4) (story_of_line c.args.line.now) in
    let all = g.met.W.Watch.wider _ _ _ n c.in_ok-enter.ensures.gone (omega (arith, some)) in
    subst (λ (w : Halt). g.W.Watch.ended c.args.watch.now c.enter.new.self n w) same (g.met.W.Watch.memory _ _ n all)

pub returns-then-depth-lt-LEAST_SHARED-clause-ended : goal.returns-then-depth-lt-LEAST_SHARED-clause-ended
returns-then-depth-lt-LEAST_SHARED-clause-ended g t c why is =
    g.met.W.Watch.ends_wider _ _ _ _ why (c.value_within.ensures.ended why is) (omega arith)

pub returns-in-Some-clause-bounds : goal.returns-in-Some-clause-bounds
returns-in-Some-clause-bounds g t c =
    let rules = c.args.line.now.rules in
    value_end (play rules) (play_laws rules) _ _ _ _ c.args.ply (story_of_line c.args.line.now) (sym c.end_where.ensures ∙ c.in-Some.is) c.args.depth
    (λ w. (let least = w.least in let most = w.most in omega (arith, ints)))

pub returns-in-Some-clause-gone : goal.returns-in-Some-clause-gone
returns-in-Some-clause-gone g t c =
    let some = tree-some (play c.args.line.now.rules) (c.args.depth + 4) (story_of_line c.args.line.now) in
    g.met.W.Watch.wider _ _ _ _ c.in_ok-enter.ensures.gone (omega (arith, some))

-- the value is within the range of all values, as an end is
pub returns-in-Some-clause-within : goal.returns-in-Some-clause-within
returns-in-Some-clause-within g t c =
    let rules = c.args.line.now.rules in
    let story = story_of_line c.args.line.now in
    let end = quiet-ended (play rules) 0 c.args.ply story _ (sym c.end_where.ensures ∙ c.in-Some.is) in
    let within = quiet_within (play rules) (play_laws rules) 0 c.args.ply story in
    let least = within.least in let most = within.most in
    record { least = omega (arith, ints, end); most = omega (arith, ints, end) }

pub end_where-requires : goal.end_where-requires
end_where-requires g t c = record { any = c.any_legal-any.ensures ∙ ap (λ s. not (is_stuck s.rules (repeat_of s.position))) c.board.ensures }

pub ranked-requires : goal.ranked-requires
ranked-requires g t c =
    let on = sym c.end_where.ensures ∙ is_none _ c.in_default.not-Some in
    record { some = some_legal c.args.line.now.rules c.args.ply (story_of_line c.args.line.now) on }

pub push-requires-clause-legal : goal.push-requires-clause-legal
push-requires-clause-legal g t c =
    let line = c.args.line.now in let moves = c.as_slice-moves.result.now in
    let listed = c.as_slice-moves.ensures.value ∙ c.listed.view_is in
    let some = subst (λ ms. 0 < length ms) (sym listed) c.in_ok-listed.ensures.some in
    let ordered = subst (λ ms. IsPermutation (legal_in line) ms) (sym listed) c.in_ok-listed.ensures.order in
    permuted_legal (legal_in line) moves 0 no_move ordered some

pub returns-in_err-found-clause-ended : goal.returns-in_err-found-clause-ended
returns-in_err-found-clause-ended g t c why is =
    let line = c.args.line.now in let rules = line.rules in let story = story_of_line line in
    let moves = c.as_slice-moves.result.now in let m = get_or moves 0 no_move in
    let on = sym c.end_where.ensures ∙ is_none _ c.in_default.not-Some in
    let listed = c.as_slice-moves.ensures.value ∙ c.listed.view_is in
    let some = subst (λ ms. 0 < length ms) (sym listed) c.in_ok-listed.ensures.some in
    let ordered = subst (λ ms. IsPermutation (legal_in line) ms) (sym listed) c.in_ok-listed.ensures.order in
    let order = subst (λ ms. IsPermutation (legal_in line) ms) (first_and_others moves no_move some) ordered in
    let all = lines-listed rules c.args.depth c.args.ply story m (others moves) on (omega arith) order in
    let back = halted c.left.result c.from_residual-in_err-found.result _ why c.in_err-found.was c.from_residual-in_err-found.ensures.1 is in
    let at = ap story_of_line c.push.ensures ∙ story-pushed line m in
    let lines = root_lines rules c.args.depth c.args.ply story _ _ m _ (ap (λ l. l.rules) c.push.ensures) at (omega arith) in
    let end = subst (λ n. g.W.Watch.ended c.enter.new.self c.left.new.watch (2 * n) why) lines (c.left.ensures.ended why back) in
    g.met.W.Watch.ends_wider _ _ _ _ why (g.met.W.Watch.ends _ _ _ _ _ why c.in_ok-enter.ensures.gone end) (omega (arith, all))

pub share-requires-clause-legal : goal.share-requires-clause-legal
share-requires-clause-legal g t c = λ κs holds.
    let line = c.args.line.now in let moves = c.as_slice-moves.result.now in
    let listed = c.as_slice-moves.ensures.value ∙ c.listed.view_is in
    let ordered = subst (λ ms. IsPermutation (legal_in line) ms) (sym listed) c.in_ok-listed.ensures.order in
    let m = get_or moves 0 no_move in
    let kept = c.back.ensures ∙ ap shorter (c.in_ok-found.ensures.kept ∙ c.push.ensures) ∙ shorter-pushed line m in
    subst (λ l. All (λ n. Member n (legal_in l)) (others moves)) (sym kept) (all_others (λ n. Member n (legal_in line)) moves (all_legal (legal_in line) moves ordered))

pub share-requires-clause-within : goal.share-requires-clause-within
share-requires-clause-within g t c = λ κs holds.
    let least = c.in_ok-found.ensures.within.least in let most = c.in_ok-found.ensures.within.most in
    record { least = omega (arith, ints); most = omega (arith, ints) }

pub returns-in_err-best-clause-ended : goal.returns-in_err-best-clause-ended
returns-in_err-best-clause-ended g t c why is =
    let line = c.args.line.now in let rules = line.rules in let story = story_of_line line in
    let moves = c.as_slice-moves.result.now in let m = get_or moves 0 no_move in
    let on = sym c.end_where.ensures ∙ is_none _ c.in_default.not-Some in
    let listed = c.as_slice-moves.ensures.value ∙ c.listed.view_is in
    let some = subst (λ ms. 0 < length ms) (sym listed) c.in_ok-listed.ensures.some in
    let ordered = subst (λ ms. IsPermutation (legal_in line) ms) (sym listed) c.in_ok-listed.ensures.order in
    let order = subst (λ ms. IsPermutation (legal_in line) ms) (first_and_others moves no_move some) ordered in
    let all = lines-listed rules c.args.depth c.args.ply story m (others moves) on (omega arith) order in
    let back = halted c.share.result c.from_residual-in_err-best.result _ why c.in_err-best.was c.from_residual-in_err-best.ensures.1 is in
    let at = ap story_of_line c.push.ensures ∙ story-pushed line m in
    let lines = root_lines rules c.args.depth c.args.ply story _ _ m _ (ap (λ l. l.rules) c.push.ensures) at (omega arith) in
    let went = subst (λ n. g.W.Watch.gone c.enter.new.self c.left.new.watch (2 * n)) lines c.in_ok-found.ensures.gone in
    let kept = c.back.ensures ∙ ap shorter (c.in_ok-found.ensures.kept ∙ c.push.ensures) ∙ shorter-pushed line m in
    let end = subst (λ l. g.W.Watch.ended c.left.new.watch c.share.new.watch (2 * Roots.root_lines l.rules c.args.depth (story_of_line l) (others moves)) why) kept (c.share.ensures.ended why back) in
    g.met.W.Watch.ends_wider _ _ _ _ why
    (g.met.W.Watch.ends _ _ _ _ _ why (g.met.W.Watch.more _ _ _ _ _ c.in_ok-enter.ensures.gone went) end) (omega (arith, all))

pub returns-clause-bounds : goal.returns-clause-bounds
returns-clause-bounds g t c =
    let line = c.args.line.now in let rules = line.rules in let story = story_of_line line in
    let moves = c.as_slice-moves.result.now in let m = get_or moves 0 no_move in
    let on = sym c.end_where.ensures ∙ is_none _ c.in_default.not-Some in
    let listed = c.as_slice-moves.ensures.value ∙ c.listed.view_is in
    let some = subst (λ ms. 0 < length ms) (sym listed) c.in_ok-listed.ensures.some in
    let ordered = subst (λ ms. IsPermutation (legal_in line) ms) (sym listed) c.in_ok-listed.ensures.order in
    let order = subst (λ ms. IsPermutation (legal_in line) ms) (first_and_others moves no_move some) ordered in
    let found = c.in_ok-found.ensures in
    let y = story_of_line c.push.new.self in
    let at = ap story_of_line c.push.ensures ∙ story-pushed line m in
    let told = subst (λ r. Bounds c.turned-asked.result.alpha c.turned-asked.result.beta c.in_ok-found.found (value (play r) (c.args.depth - 1) (c.args.ply + 1) y)) (ap (λ l. l.rules) c.push.ensures) found.bounds in
    let least = found.within.least in let most = found.within.most in
    let value = to_z w32 (of_z w32 (pos 0 -ℤ to_z w32 (of_z w32 c.in_ok-found.found))) in
    let first : Best = record { value = value; chosen = m } in
    let scored = score-bounds rules c.args.depth c.args.ply story m c.args.window.alpha c.args.window.beta c.in_ok-found.found value _ _ y at
    c.turned-asked.ensures.alpha c.turned-asked.ensures.beta (omega (arith, ints)) told in
    let kept = c.back.ensures ∙ ap shorter (found.kept ∙ c.push.ensures) ∙ shorter-pushed line m in
    let least = c.in_ok-best.ensures.within.least in let most = c.in_ok-best.ensures.within.most in
    reframe _ _ _ _ _ _ _
    (left-bounds rules c.args.depth c.args.ply story m (others moves) on (omega arith) order c.args.window.alpha c.args.window.beta first c.in_ok-best.best scored
    (subst (λ l. (v : ℤ) → Bounds c.args.window.alpha c.args.window.beta value v
    → Bounds c.args.window.alpha c.args.window.beta c.in_ok-best.best.value (greatest v (score_of l.rules c.args.depth c.args.ply (story_of_line l)) (others moves)))
    kept c.in_ok-best.ensures.bounds))
    refl refl (omega (arith, ints))

pub returns-clause-gone : goal.returns-clause-gone
returns-clause-gone g t c =
    let line = c.args.line.now in let rules = line.rules in let story = story_of_line line in
    let moves = c.as_slice-moves.result.now in let m = get_or moves 0 no_move in
    let on = sym c.end_where.ensures ∙ is_none _ c.in_default.not-Some in
    let listed = c.as_slice-moves.ensures.value ∙ c.listed.view_is in
    let some = subst (λ ms. 0 < length ms) (sym listed) c.in_ok-listed.ensures.some in
    let ordered = subst (λ ms. IsPermutation (legal_in line) ms) (sym listed) c.in_ok-listed.ensures.order in
    let order = subst (λ ms. IsPermutation (legal_in line) ms) (first_and_others moves no_move some) ordered in
    let all = lines-listed rules c.args.depth c.args.ply story m (others moves) on (omega arith) order in
    let at = ap story_of_line c.push.ensures ∙ story-pushed line m in
    let lines = root_lines rules c.args.depth c.args.ply story _ _ m _ (ap (λ l. l.rules) c.push.ensures) at (omega arith) in
    let went = subst (λ n. g.W.Watch.gone c.enter.new.self c.left.new.watch (2 * n)) lines c.in_ok-found.ensures.gone in
    let kept = c.back.ensures ∙ ap shorter (c.in_ok-found.ensures.kept ∙ c.push.ensures) ∙ shorter-pushed line m in
    let rest = subst (λ l. g.W.Watch.gone c.left.new.watch c.share.new.watch (2 * Roots.root_lines l.rules c.args.depth (story_of_line l) (others moves))) kept c.in_ok-best.ensures.gone in
    g.met.W.Watch.wider _ _ _ _ (g.met.W.Watch.more _ _ _ _ _ (g.met.W.Watch.more _ _ _ _ _ c.in_ok-enter.ensures.gone went) rest) (omega (arith, all))

pub returns-clause-few : goal.returns-clause-few
returns-clause-few g t c =
    let line = c.args.line.now in let rules = line.rules in let story = story_of_line line in
    let moves = c.as_slice-moves.result.now in let m = get_or moves 0 no_move in
    let on = sym c.end_where.ensures ∙ is_none _ c.in_default.not-Some in
    let listed = c.as_slice-moves.ensures.value ∙ c.listed.view_is in
    let some = subst (λ ms. 0 < length ms) (sym listed) c.in_ok-listed.ensures.some in
    let ordered = subst (λ ms. IsPermutation (legal_in line) ms) (sym listed) c.in_ok-listed.ensures.order in
    let order = subst (λ ms. IsPermutation (legal_in line) ms) (first_and_others moves no_move some) ordered in
    let all = lines-listed rules c.args.depth c.args.ply story m (others moves) on (omega arith) order in
    let at = ap story_of_line c.push.ensures ∙ story-pushed line m in
    let lines = root_lines rules c.args.depth c.args.ply story _ _ m _ (ap (λ l. l.rules) c.push.ensures) at (omega arith) in
    let kept = c.back.ensures ∙ ap shorter (c.in_ok-found.ensures.kept ∙ c.push.ensures) ∙ shorter-pushed line m in
    let first = subst (λ n. most_nodes 0 c.left.new.jobs ≤ most_nodes 0 c.args.jobs.now + n) lines c.in_ok-found.ensures.few in
    let rest = subst (λ l. most_nodes 0 c.share.new.jobs ≤ most_nodes 0 c.left.new.jobs + Roots.root_lines l.rules c.args.depth (story_of_line l) (others moves)) kept c.in_ok-best.ensures.few in
    omega (arith, all, first, rest)

pub returns-clause-kept : goal.returns-clause-kept
returns-clause-kept g t c =
    let line = c.args.line.now in let m = get_or c.as_slice-moves.result.now 0 no_move in
    c.in_ok-best.ensures.kept ∙ c.back.ensures ∙ ap shorter (c.in_ok-found.ensures.kept ∙ c.push.ensures) ∙ shorter-pushed line m
