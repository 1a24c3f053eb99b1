use Rattle.std.proofs.Common.{sym, ◌∙◌}
use Rattle.game_play.specs.Played.{story}
use Rattle.stipulation.specs.AtTask as At
use Rattle.stipulation.proofs.CheckLemmas.{root-end, tree-fault, tree-rest, ok-mono}
use Rattle.stipulation.proofs.check.Tree.verdict.Goals as goal

pub returns-in_default-2 : goal.returns-in_default-2
returns-in_default-2 c =
    let t = c.args.self.now in
    tree-fault (At.games t.task) t.n (story t.task.game.now) t.steps.now (At.at t.task c.new-line.result) c.in_ok-fault.fault (root-end t.task c.new-line.result c.new-line.ensures)
    (sym c.plies_verdict.ensures ∙ c.in-Holds.is) c.in_ok-fault.ensures c.in_default-2.not-Holds

pub returns : goal.returns
returns c =
    let t = c.args.self.now in
    ok-mono _ _ c.steps_verdict.result c.steps_verdict.ensures (λ v e. e ∙
    tree-rest (At.games t.task) t.n (story t.task.game.now) t.steps.now (At.at t.task c.new-line.result) c.in_ok-fault.fault (root-end t.task c.new-line.result c.new-line.ensures)
    (sym c.plies_verdict.ensures ∙ c.in-Holds.is) c.in_ok-fault.ensures c.in-Holds-2.is)
