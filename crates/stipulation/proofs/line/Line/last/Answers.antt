use Rattle.std.proofs.Common.{◌-◌, List, ap, sym, ◌∙◌, arith}
use Rattle.rules_model.specs.declared.board.Position.{Position}
use Rattle.rules_model.specs.Games.{Story}
use Rattle.game_play.specs.Played.{story}
use Rattle.stipulation.specs.Lines.{along}
use Rattle.stipulation.proofs.LineLemmas.{along-empty, along-last}
use Rattle.stipulation.proofs.line.Line.last.Goals as goal

pub returns-then-plies-eq0-clause-is : goal.returns-then-plies-eq0-clause-is
returns-then-plies-eq0-clause-is c =
    let all = along-empty (story c.args.game.now) c.self.inside.positions.items (omega arith) in
    c.position.ensures.is ∙ sym (ap (λ (g : Story). g.last) (rw c.self.view_is at all))

pub returns-else-plies-eq0-clause-is : goal.returns-else-plies-eq0-clause-is
returns-else-plies-eq0-clause-is c =
    let g = story c.args.game.now in
    let all = along-last g c.self.inside.positions.items (c.len-plies.result - 1) c.index.result.now (omega arith) in
    c.index.ensures ∙ sym (sym (ap (λ (ps : List Position). (along g ps).last) c.self.view_is) ∙ all)
