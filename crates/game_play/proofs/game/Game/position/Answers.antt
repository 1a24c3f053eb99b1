use Rattle.std.specs.Arc.{arc_value}
use Rattle.std.proofs.Common.{◌≡◌, true, refl, ap, subst, ◌∙◌, arith}
use Rattle.rules_model.specs.Sound.{is_sound}
use Rattle.game_play.specs.Played.{Played, story}
use Rattle.game_play.proofs.KeptLemmas.{kept-count, kept-end, kept-ready}
use Rattle.game_play.proofs.game.Game.position.Goals as goal

pub last-requires : goal.last-requires
last-requires c =
    let i = c.self.inside in
    let count = kept-count (arc_value i.tables) i.standings i.moves.items c.self.invariant in
    record { some = omega arith }

pub returns-clause-is : goal.returns-clause-is
returns-clause-is c =
    let i = c.self.inside in
    c.last.ensures c.last.result.now ∙ kept-end (arc_value i.tables) i.standings i.moves.items c.self.invariant c.last.result.now ∙ ap (λ (g : Played). (story g).last) c.self.view_is

pub returns-clause-sound : goal.returns-clause-sound
returns-clause-sound c =
    let i = c.self.inside in
    let last = c.last.ensures c.last.result.now ∙ kept-end (arc_value i.tables) i.standings i.moves.items c.self.invariant c.last.result.now in
    let ready = kept-ready (arc_value i.tables) i.standings i.moves.items c.self.invariant c.last.result.now last (arc_value i.tables) (arc_value i.tables) refl refl in
    subst (λ (g : Played). is_sound g.rules c.last.result.now ≡ true) c.self.view_is ready.sound
