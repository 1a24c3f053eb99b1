use Rattle.std.proofs.Common.{◌-◌, ◌+◌, ◌*◌, ◌≤◌, ap, ◌∙◌, subst, arith}
use Rattle.std.proofs.lemmas.Int.{ints}
use Rattle.game_line.specs.Lined.{shorter, story_of_line}
use Rattle.game_line.proofs.LineLaws.{shorter-pushed, story-pushed}
use Rattle.evaluation.specs.Values.{play, value}
use Rattle.negamax.specs.Windows.{Bounds}
use Rattle.negamax.proofs.HaltLaws.{halted}
use Rattle.negamax.proofs.RootLaws.{root_lines, score-bounds}
use Rattle.alpha_beta.specs.Workers.{most_nodes}
use Rattle.alpha_beta.proofs.settling.score_root.Goals as goal

pub returns-in_err-found-clause-ended : goal.returns-in_err-found-clause-ended
returns-in_err-found-clause-ended g c why is =
    let line = c.args.line.now in
    let back = halted c.left.result c.from_residual.result _ why c.in_err-found.was c.from_residual.ensures.1 is in
    let at = ap story_of_line c.push.ensures ∙ story-pushed line c.args.chosen.now in
    let lines = root_lines line.rules c.args.depth 0 (story_of_line line) _ _ c.args.chosen.now _ (ap (λ l. l.rules) c.push.ensures) at (omega arith) in
    subst (λ n. g.W.Watch.ended c.args.watch.now c.left.new.watch (2 * n) why) lines (c.left.ensures.ended why back)

pub returns-clause-bounds : goal.returns-clause-bounds
returns-clause-bounds g c =
    let line = c.args.line.now in
    let found = c.in_ok-found.ensures in
    let y = story_of_line c.push.new.self in
    let at = ap story_of_line c.push.ensures ∙ story-pushed line c.args.chosen.now in
    let same = ap (λ l. l.rules) c.push.ensures in
    let told = subst (λ r. Bounds c.turned-asked.result.alpha c.turned-asked.result.beta c.in_ok-found.found (value (play r) (c.args.depth - 1) 1 y)) same found.bounds in
    let least = found.within.least in let most = found.within.most in
    score-bounds line.rules c.args.depth 0 (story_of_line line) c.args.chosen.now c.args.window.alpha c.args.window.beta c.in_ok-found.found _ _ _ y at
    c.turned-asked.ensures.alpha c.turned-asked.ensures.beta (omega (arith, ints)) told

pub returns-clause-within : goal.returns-clause-within
returns-clause-within g c =
    let found = c.in_ok-found.ensures in
    let least = found.within.least in let most = found.within.most in
    record { least = omega (arith, ints); most = omega (arith, ints) }

pub returns-clause-few : goal.returns-clause-few
returns-clause-few g c =
    let line = c.args.line.now in
    let at = ap story_of_line c.push.ensures ∙ story-pushed line c.args.chosen.now in
    let lines = root_lines line.rules c.args.depth 0 (story_of_line line) _ _ c.args.chosen.now _ (ap (λ l. l.rules) c.push.ensures) at (omega arith) in
    subst (λ n. most_nodes 0 c.left.new.jobs ≤ most_nodes 0 c.args.jobs.now + n) lines c.in_ok-found.ensures.few

pub returns-clause-gone : goal.returns-clause-gone
returns-clause-gone g c =
    let line = c.args.line.now in
    let at = ap story_of_line c.push.ensures ∙ story-pushed line c.args.chosen.now in
    let lines = root_lines line.rules c.args.depth 0 (story_of_line line) _ _ c.args.chosen.now _ (ap (λ l. l.rules) c.push.ensures) at (omega arith) in
    subst (λ n. g.W.Watch.gone c.args.watch.now c.left.new.watch (2 * n)) lines c.in_ok-found.ensures.gone

pub returns-clause-kept : goal.returns-clause-kept
returns-clause-kept g c =
    c.back.ensures ∙ ap shorter (c.in_ok-found.ensures.kept ∙ c.push.ensures) ∙ shorter-pushed c.args.line.now c.args.chosen.now
