use Rattle.std.proofs.Common.{◌≡◌, subst}
use Rattle.rules_model.specs.declared.board.Side.{Side}
use Rattle.rules_model.specs.declared.board.Side.TheVariants.{White, Black}
use Rattle.rules_model.specs.Hands.{hand_of}
use Rattle.rules_model.specs.Sides.{other}
use Rattle.position_key.proofs.ExchangeLemmas.{one-hand}
use Rattle.position_key.proofs.sums.with_hands.Goals as goal

pub returns-in-White : goal.returns-in-White
returns-in-White c =
    let Stays : Side → Type 0 = λ side. hand_of c.args.next.now (other side) ≡ hand_of c.args.before.now (other side) in
    one-hand _ _ White c.args.before.now c.args.next.now (subst Stays c.in-White.is c.requires) c.with_hand.ensures

pub returns-in-Black : goal.returns-in-Black
returns-in-Black c =
    let Stays : Side → Type 0 = λ side. hand_of c.args.next.now (other side) ≡ hand_of c.args.before.now (other side) in
    one-hand _ _ Black c.args.before.now c.args.next.now (subst Stays c.in-Black.is c.requires) c.with_hand-in-Black.ensures
