use Rattle.std.proofs.Common.{subst}
use Rattle.std.proofs.lemmas.Bool.{OnTrue_from}
use Rattle.foundation.specs.Member.{Member}
use Rattle.rules_model.specs.declared.rules.Rules.{Rules}
use Rattle.rules_model.specs.Legal.{legal}
use Rattle.rules_model.specs.Repeats.{repeat_of}
use Rattle.mate_settle.proofs.LastMoves.{reply-loses}
use Rattle.mate_settle.proofs.last_moves.is_met.Goals as goal

pub returns-in-Some : goal.returns-in-Some
returns-in-Some c =
    let f = c.args.frame.now in
    let p = c.args.board.now.position in
    let reply = c.in-Some.reply in
    let Legal : Rules → Type 0 = λ rules. Member reply (legal rules (repeat_of p)) in
    OnTrue_from _ _ (λ told. reply-loses f p reply c.requires.movers c.requires.turn (subst Legal c.requires.rules (c.is_legal.ensures.member.0 told)))
