use Rattle.std.proofs.Common.{subst}
use Rattle.std.specs.Prelude.{IfSome}
use Rattle.check_moves.specs.Replies.{AreReplies}
use Rattle.game_line.specs.Lined.{stance_of_line}
use Rattle.negamax.proofs.settling.Settling.replies_in.Goals as goal

pub returns-in-Some-clause-found : goal.returns-in-Some-clause-found
returns-in-Some-clause-found c =
    subst (λ o. IfSome o (AreReplies (stance_of_line c.args.line.now))) c.in-Some.is c.requires.known.leaps

pub returns-clause-known : goal.returns-clause-known
returns-clause-known c = record {
  ends = c.requires.known.ends;
  steps = c.requires.known.steps;
  leaps = subst (λ s. AreReplies s c.of-replies.result) c.board.ensures c.of-replies.ensures;
}

pub returns-clause-found : goal.returns-clause-found
returns-clause-found c = subst (λ s. AreReplies s c.of-replies.result) c.board.ensures c.of-replies.ensures
