use Rattle.std.proofs.Common.{◌≡◌, true, false, subst}
use Rattle.foundation.specs.Member.{Member}
use Rattle.rules_model.specs.declared.rules.Rules.{Rules}
use Rattle.rules_model.specs.Ends.{early_end, is_ongoing}
use Rattle.rules_model.specs.Legal.{legal}
use Rattle.rules_model.specs.Next.{next, next_repeat}
use Rattle.rules_model.specs.Repeats.{repeat_of}
use Rattle.rules_model.proofs.LegalLaws.{legal-member}
use Rattle.legality.proofs.GoLaws.{on_true}
use Rattle.mate_fact.specs.InFrame as In
use Rattle.mate_settle.proofs.LastMoves.{met-loses}
use Rattle.mate_settle.proofs.last_moves.leaves_step.Goals as goal

pub meets-requires-clause-move_fits : goal.meets-requires-clause-move_fits
meets-requires-clause-move_fits c = (legal-member _ _ _ c.requires.legal).0

pub returns-clause-no_win : goal.returns-clause-no_win
unfolding next
returns-clause-no_win c =
    let f = c.args.frame.now in
    let p = c.args.board.now.position in
    let m = c.args.m.now in
    on_true {Q = In.near_in f 0 (next f.rules p m) ≡ false} c.meets.result c.meets.ensures.met (λ met.
    let Leaves : Rules → Type 0 = λ rules. is_ongoing (early_end rules (next_repeat rules (repeat_of p) m)) ≡ true → Member met.reply (legal rules (next_repeat rules (repeat_of p) m)) in
    met-loses f p m met.reply c.requires.only c.if-frame.false c.requires.attack.turn (subst Leaves c.requires.rules met.legal))
