use Rattle.std.proofs.Common.{◌∙◌, arith}
use Rattle.evaluation.proofs.PutLaws.{hand_more, hand_none, hand_whole}
use Rattle.evaluation.proofs.piece_values.PieceValues.hand.Goals as goal

pub loop-k-init : goal.loop-k-init
loop-k-init c = hand_none c.args.self.now c.args.p.now.hands c.args.side

pub loop-k-preserved : goal.loop-k-preserved
loop-k-preserved c =
    hand_more c.args.self.now c.args.p.now.hands c.args.side _ _ _ _ c.loop-k.invariant (c.from.ensures ∙ c.in_hand.ensures)
    (c.from-in-loop-k.ensures ∙ c.kind.ensures.is) (omega (arith, c.from.ensures, c.in_hand.type_inv))
    (omega (arith, c.from-in-loop-k.ensures, c.kind.ensures.few))

pub returns-clause-is : goal.returns-clause-is
returns-clause-is c = (hand_whole c.args.self.now c.args.p.now.hands c.args.side _ _ c.loop-k.auto.k-end c.loop-k-test.false c.loop-k.invariant).0

pub returns-clause-few : goal.returns-clause-few
returns-clause-few c = (hand_whole c.args.self.now c.args.p.now.hands c.args.side _ _ c.loop-k.auto.k-end c.loop-k-test.false c.loop-k.invariant).1
