use Rattle.std.proofs.Common.{◌≡◌, ◌∙◌, ◌-◌, ap, option_map, subst, suc, sym}
use Rattle.std.proofs.lemmas.Result.{IfOk-weaker}
use Rattle.foundation.specs.Count.{first_below}
use Rattle.rules_model.specs.declared.board.Position.{Position}
use Rattle.rules_model.specs.Games.{Story, played}
use Rattle.forced_wins.specs.Wins.{IsInLimit}
use Rattle.game_play.specs.Played.{Played, story}
use Rattle.suite.specs.Winning.{side_wins}
use Rattle.suite.proofs.AtOnceLaws.{story-longer, turn-over}
use Rattle.suite.proofs.KeyLaws.{limit-after}
use Rattle.suite.proofs.first_moves.moves_by.Goals as goal

pub moves_after-moves-requires-clause-turn : goal.moves_after-moves-requires-clause-turn
moves_after-moves-requires-clause-turn g c =
    let before = c.args.game.now in
    let m = c.args.chosen.now in
    let after : story c.play_on.new.game ≡ played before.rules (story before) m =
    ap story c.in_ok-play_on.ensures.played ∙ story-longer before m in
    rw (after, c.position.ensures.is) (turn-over before.rules (story before) m)

pub moves_after-moves-requires-clause-in_limit : goal.moves_after-moves-requires-clause-in_limit
moves_after-moves-requires-clause-in_limit g c =
    let before = c.args.game.now in
    let m = c.args.chosen.now in
    subst (λ (x : Played). IsInLimit x.rules (c.args.n - 1) (story x)) (sym c.in_ok-play_on.ensures.played)
    (subst (λ (s : Story). IsInLimit before.rules (c.args.n - 1) s) (sym (story-longer before m))
    (limit-after before.rules (story before) m c.args.n c.requires.some c.requires.in_limit))

pub returns-clause-is : goal.returns-clause-is
returns-clause-is g c =
    let before = c.args.game.now in
    let m = c.args.chosen.now in
    let n = c.args.n in
    let side = c.position.result.now.side in
    IfOk-weaker c.moves_after-moves.result _ _
    (λ k is.
    is
    ∙ ap (λ (x : Played). option_map suc (first_below (side_wins x.rules (story x) side) n)) c.in_ok-play_on.ensures.played
    ∙ ap (λ (s : Story). option_map suc (first_below (side_wins before.rules s side) n)) (story-longer before m)
    ∙ ap (λ (p : Position). option_map suc (first_below (side_wins before.rules (played before.rules (story before) m) p.side) n)) c.position.ensures.is)
    c.moves_after-moves.ensures.is
