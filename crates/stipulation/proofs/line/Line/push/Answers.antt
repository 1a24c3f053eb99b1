use Rattle.std.proofs.Common.{ap, ◌∙◌, ◌++◌, ◌∷◌, [], List}
use Rattle.rules_model.specs.declared.board.Position.{Position}
use Rattle.game_play.specs.Played.{story}
use Rattle.stipulation.proofs.LineLemmas.{push-played}
use Rattle.stipulation.proofs.line.Line.push.Goals as goal

pub returns-clause-played : goal.returns-clause-played
returns-clause-played c =
    push-played c.args.game.now.rules c.rules.result.now (story c.args.game.now) c.args.self.now c.push.new.self.items c.last.result.now c.apply.new.p c.args.m.now
    c.rules.ensures c.last.ensures.is c.apply.ensures.next (c.in_ok-push.ensures.items ∙ ap (λ (ps : List Position). ps ++ c.apply.new.p ∷ []) c.self.view_is)
