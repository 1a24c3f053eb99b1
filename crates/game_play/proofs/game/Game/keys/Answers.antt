use Rattle.std.specs.Arc.{arc_value}
use Rattle.std.proofs.Common.{length, ap, ◌∙◌, arith}
use Rattle.rules_model.specs.Games.{history}
use Rattle.game_play.specs.Played.{Played, story, keys_of}
use Rattle.game_play.proofs.KeptLemmas.{kept-few}
use Rattle.game_play.proofs.KeyLemmas.{keys-length}
use Rattle.game_play.proofs.game.Game.keys.Goals as goal

pub returns-clause-is : goal.returns-clause-is
returns-clause-is c = c.keys.ensures ∙ ap keys_of c.self.invariant.are_positions ∙ ap (λ (g : Played). keys_of (history (story g))) c.self.view_is

pub returns-clause-few : goal.returns-clause-few
returns-clause-few c =
    let i = c.self.inside in
    let few = kept-few (arc_value i.tables) i.standings i.moves.items c.self.invariant in
    let same = keys-length i.standings in
    let all = ap length c.keys.ensures in
    omega arith
