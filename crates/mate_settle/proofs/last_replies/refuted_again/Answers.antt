use Rattle.std.proofs.Common.{rules, arith}
use Rattle.mate_settle.specs.Refuters.{IsRefuter}
use Rattle.mate_settle.proofs.TriedLaws.{reply_refutes}
use Rattle.mate_settle.proofs.last_replies.refuted_again.Goals as goal

pub returns-in-Some-clause-told : goal.returns-in-Some-clause-told
returns-in-Some-clause-told c =
    let f = c.args.facts.now in
    let s = c.args.board.now in
    let is : IsRefuter f s c.in-Some.reply = search rules in
    record { own = reply_refutes f s c.in-Some.reply c.requires.rules c.requires.turn is; won = λ e. omega arith; lost = λ e. omega arith }
