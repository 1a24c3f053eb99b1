use Rattle.referee.specs.Replies.{RepliesTo}
use Rattle.referee.proofs.ReplyLemmas.{input_says, said_so}
use Rattle.referee.proofs.answering.answer_opened.Goals as goal

pub returns : goal.returns
returns c =
    said_so c.answer_refereed.result c.said.result _ (RepliesTo c.args.opened.now c.args.input.now) (λ answer says. says)
    (input_says c.args.input.now _ _ _ (rw c.in_ok-source.ensures at c.answer_refereed.ensures.heard)) c.said.ensures
