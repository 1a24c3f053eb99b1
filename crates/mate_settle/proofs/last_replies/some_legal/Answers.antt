use Rattle.std.proofs.Common.{rules, ◌≡◌, false}
use Rattle.foundation.specs.Tests.{is_nil}
use Rattle.mate_settle.proofs.TriedLaws.{some_not_stuck}
use Rattle.mate_settle.proofs.last_replies.some_legal.Goals as goal

pub returns : goal.returns
returns c =
    let some : is_nil c.args.moves.now ≡ false = search rules in
    some_not_stuck c.args.board.now c.args.moves.now c.requires some
