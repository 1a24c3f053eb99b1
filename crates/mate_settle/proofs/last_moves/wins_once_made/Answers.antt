use Rattle.std.proofs.Common.{◌≡◌, false, sym, subst}
use Rattle.std.proofs.lemmas.Bool.{OnTrue_at}
use Rattle.rules_model.specs.declared.board.Position.{Position}
use Rattle.mate_fact.specs.InFrame as In
use Rattle.mate_settle.proofs.LastMoves.{turn-after}
use Rattle.mate_settle.proofs.Settled.{after-is}
use Rattle.mate_settle.proofs.last_moves.wins_once_made.Goals as goal

pub is_met_again-requires-clause-turn : goal.is_met_again-requires-clause-turn
is_met_again-requires-clause-turn c =
    let f = c.args.frame.now in
    let p = c.args.board.now.position in
    let m = c.args.m.now in
    turn-after f p c.asked_after-next.result.position m (after-is f.rules f c.args.board.now c.asked_after-next.result m c.requires.rules c.asked_after-next.ensures) c.requires.attack.turn

pub returns-then-is_met_again-clause-wins : goal.returns-then-is_met_again-clause-wins
returns-then-is_met_again-clause-wins c =
    let f = c.args.frame.now in
    let m = c.args.m.now in
    let is = after-is f.rules f c.args.board.now c.asked_after-next.result m c.requires.rules c.asked_after-next.ensures in
    sym (subst (λ (q : Position). In.near_in f 0 q ≡ false) is (OnTrue_at c.if-is_met_again.true c.is_met_again.ensures.met))

pub wins_at_once-wins-requires-clause-turn : goal.wins_at_once-wins-requires-clause-turn
wins_at_once-wins-requires-clause-turn c =
    let f = c.args.frame.now in
    let p = c.args.board.now.position in
    let m = c.args.m.now in
    turn-after f p c.asked_after-next.result.position m (after-is f.rules f c.args.board.now c.asked_after-next.result m c.requires.rules c.asked_after-next.ensures) c.requires.attack.turn
