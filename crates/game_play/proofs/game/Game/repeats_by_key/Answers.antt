use Rattle.std.specs.Arc.{arc_value}
use Rattle.std.proofs.Common.{◌≡◌, length, ap, ◌∙◌, arith}
use Rattle.rules_model.specs.Games.{history, times}
use Rattle.rules_model.specs.Repeats.{repeat_of}
use Rattle.game_play.specs.Played.{Played, story}
use Rattle.game_play.proofs.KeptLemmas.{kept-count}
use Rattle.game_play.proofs.game.Game.repeats_by_key.Goals as goal

pub returns-clause-is : goal.returns-clause-is
returns-clause-is c =
    let r = repeat_of c.args.p.now in
    c.from.ensures ∙ c.times.ensures.is ∙ ap (times r) c.self.invariant.are_positions ∙ ap (λ (g : Played). times r (history (story g))) c.self.view_is

pub returns-clause-few : goal.returns-clause-few
returns-clause-few c =
    let i = c.self.inside in
    let count = kept-count (arc_value i.tables) i.standings i.moves.items c.self.invariant in
    let same : length i.moves.items ≡ length c.args.self.now.moves = ap (λ (g : Played). length g.moves) c.self.view_is in
    let few = c.times.ensures.few in
    omega arith
