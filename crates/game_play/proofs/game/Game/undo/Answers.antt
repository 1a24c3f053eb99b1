use Rattle.std.specs.Arc.{arc_value}
use Rattle.std.proofs.Common.{◌≡◌, ◌-◌, length, take, arith, ap, ◌∙◌}
use Rattle.game_play.specs.Played.{shorter}
use Rattle.game_play.proofs.KeptLemmas.{kept-count, kept-front, played_of-front}
use Rattle.game_play.proofs.game.Game.undo.Goals as goal

pub pop-requires : goal.pop-requires
pop-requires c =
    let i = c.self.inside in
    let count = kept-count (arc_value i.tables) i.standings i.moves.items c.self.invariant in
    record { some = omega arith }

pub invariant_of-self : goal.invariant_of-self
invariant_of-self c =
    let i = c.self.inside in
    let count = kept-count (arc_value i.tables) i.standings i.moves.items c.self.invariant in
    let plies : length i.standings - 1 ≡ c.len-plies.result = omega arith in
    kept-front (arc_value i.tables) i.standings i.moves.items c.self.invariant c.len-plies.result (omega arith) (omega arith) _ _ (c.pop.ensures ∙ ap (λ n. take n i.standings) plies) c.truncate.ensures.items

pub returns-clause-undone : goal.returns-clause-undone
returns-clause-undone c =
    let i = c.self.inside in
    let count = kept-count (arc_value i.tables) i.standings i.moves.items c.self.invariant in
    let plies : length i.standings - 1 ≡ c.len-plies.result = omega arith in
    rw (c.pop.ensures, plies, c.truncate.ensures.items) (played_of-front (arc_value i.tables) i.standings i.moves.items c.len-plies.result (omega arith) (omega arith) ∙ ap shorter c.self.view_is)
