use Rattle.std.proofs.Common.{Some, None, false, if◌then◌else◌, ap, sym, ◌∙◌}
use Rattle.game_play.specs.Played.{story}
use Rattle.stipulation.specs.Lines.{along}
use Rattle.stipulation.proofs.LineLemmas.{end-by_itself, end-counts}
use Rattle.stipulation.proofs.line.Line.end.Goals as goal

pub returns-then-is_cut : goal.returns-then-is_cut
returns-then-is_cut c =
    sym (ap (λ b. if b then Some false else None) c.if-is_cut.true)
    ∙ end-counts c.args.game.now.rules c.tables.result.now (along (story c.args.game.now) c.args.self.now) c.args.winner c.last.result.now c.own_end.result c.is_cut.result
    c.tables.ensures c.last.ensures.is c.own_end.ensures c.in-Ongoing.is c.is_cut.ensures

pub returns-else-is_cut : goal.returns-else-is_cut
returns-else-is_cut c =
    sym (ap (λ b. if b then Some false else None) c.if-is_cut.false)
    ∙ end-counts c.args.game.now.rules c.tables.result.now (along (story c.args.game.now) c.args.self.now) c.args.winner c.last.result.now c.own_end.result c.is_cut.result
    c.tables.ensures c.last.ensures.is c.own_end.ensures c.in-Ongoing.is c.is_cut.ensures

pub returns-in_default : goal.returns-in_default
returns-in_default c =
    end-by_itself c.args.game.now.rules c.tables.result.now (along (story c.args.game.now) c.args.self.now) c.args.winner c.last.result.now c.own_end.result c.mated_by.result
    c.tables.ensures c.last.ensures.is c.own_end.ensures c.in_default.not-Ongoing c.mated_by.ensures
