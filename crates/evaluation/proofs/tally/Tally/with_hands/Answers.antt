use Rattle.rules_model.specs.Next.{hands_after}
use Rattle.evaluation.proofs.HandLaws.{sized, taken_and_placed}
use Rattle.evaluation.proofs.tally.Tally.with_hands.Goals as goal

pub returns-in-Some : goal.returns-in-Some
unfolding hands_after
returns-in-Some c =
    rw (c.in-Go.is, c.in-Some.is, ← c.taken-taken.ensures)
    (taken_and_placed c.args.rules.now c.args.p.now.hands c.args.p.now.side c.taken-taken.result c.in-Some.kind _ _ _ _
    (sized c.args.p.now c.prove_position_sizes.ensures) c.took-took.ensures c.holds_then-held.ensures
    (rw c.requires.values at c.put_down.ensures))
