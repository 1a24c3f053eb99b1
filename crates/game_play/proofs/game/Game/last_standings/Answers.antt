use Rattle.std.specs.Arc.{arc_value}
use Rattle.std.proofs.Common.{ap, ◌∙◌, arith}
use Rattle.rules_model.specs.declared.board.Position.{Position}
use Rattle.rules_model.specs.Games.{history, times}
use Rattle.rules_model.specs.Repeats.{repeat_of}
use Rattle.game_play.specs.Played.{Played, story, played_of}
use Rattle.game_play.proofs.KeptLemmas.{kept-count, kept-end}
use Rattle.game_play.proofs.RepetitionLemmas.{blank}
use Rattle.game_play.proofs.game.Game.last_standings.Goals as goal

pub times_of_last-requires : goal.times_of_last-requires
times_of_last-requires c =
    let i = c.self.inside in
    let count = kept-count (arc_value i.tables) i.standings i.moves.items c.self.invariant in
    record { some = omega arith }

pub returns : goal.returns
returns c =
    let i = c.self.inside in
    let last = repeat_of (story (played_of (arc_value i.tables) i.standings i.moves.items)).last in
    c.from.ensures ∙ c.times_of_last.ensures blank
    ∙ ap (λ (p : Position). times (repeat_of p) i.standings) (kept-end (arc_value i.tables) i.standings i.moves.items c.self.invariant blank)
    ∙ ap (times last) c.self.invariant.are_positions ∙ ap (λ (g : Played). times (repeat_of (story g).last) (history (story g))) c.self.view_is
