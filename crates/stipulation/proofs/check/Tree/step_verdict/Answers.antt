use Rattle.std.proofs.Common.{◌-◌, reverse, take, ap, ◌∙◌}
use Rattle.stipulation.specs.AtTask as At
use Rattle.stipulation.proofs.CheckLemmas.{good-legal, line-more, ok-const}
use Rattle.stipulation.proofs.check.Tree.step_verdict.Goals as goal

pub push-requires-clause-legal : goal.push-requires-clause-legal
push-requires-clause-legal c =
    good-legal (At.games c.args.self.now.task) (At.at c.args.self.now.task c.cut.new.self) _ c.args.s.now.chosen c.is_bad_move.result c.is_bad_move.ensures c.if-is_bad_move.false

pub returns-clause-line : goal.returns-clause-line
returns-clause-line c =
    let t = c.args.self.now in
    let earlier = reverse (take c.args.i t.steps.now) in
    ok-const c.game_verdict.result
    (line-more t.task earlier c.args.line.now c.cut.new.self c.push.new.self c.args.s.now c.requires.before c.requires.least c.requires.next (c.cut.ensures ∙ ap (λ p. take (p - 1) c.args.line.now) c.from.ensures)
    c.in_ok-push.ensures.more c.in_ok-push.ensures.before c.in_ok-push.ensures.played)
