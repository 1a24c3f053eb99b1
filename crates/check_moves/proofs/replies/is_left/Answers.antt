use Rattle.legality.proofs.GoLaws.{on_true}
use Rattle.check_moves.specs.Replies.{leap_of}
use Rattle.check_moves.proofs.replies.is_left.Goals as goal

pub returns-in-Some : goal.returns-in-Some
returns-in-Some c =
    on_true c.stays_legal.result c.stays_legal.ensures (λ stays. record {
      reply = leap_of c.in-Some.reply;
      legal = stays c.args.m.now c.requires.coming;
    })
