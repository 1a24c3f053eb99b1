use Rattle.std.proofs.Common.{arith}
use Rattle.rules_model.specs.Repeats.{repeat_of}
use Rattle.game_line.specs.Lined.{story_of_line}
use Rattle.game_line.proofs.SlotLaws.{times-most}
use Rattle.game_line.proofs.line.Line.may_have_stood.Goals as goal

pub returns : goal.returns
returns c = λ no.
    let i = c.self.inside in
    let l = c.args.self.now in
    let most = times-most i.game.now i.moves.items i.room i.boards.items i.keys.items i.slots c.self.invariant.0 c.self.invariant.2 l c.self.view_is (repeat_of (story_of_line l).last) c.key.result c.key.ensures in
    let at = c.at.ensures in
    grind (arith, no)
