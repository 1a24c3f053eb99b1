use Rattle.std.proofs.Common.{sym, subst}
use Rattle.rules_model.specs.declared.moves.Move.{Move}
use Rattle.rules_model.specs.Next.{cells_after}
use Rattle.rules_model.specs.Repeats.{repeat_of}
use Rattle.next_position.specs.Changed.{AgreeOutside}
use Rattle.next_position.proofs.TouchedLemmas.{agree-go, agree-castle, agree-drop, with-has, with-keeps}
use Rattle.next_position.proofs.written.squares_of.Goals as goal

pub returns-in-Go : goal.returns-in-Go
returns-in-Go c =
    let P : Move → Type 0 = λ m. AgreeOutside c.with_passed.result c.args.p.now.cells (cells_after c.args.rules.now (repeat_of c.args.p.now) m) in
    let left = with-keeps _ _ _ _ c.with-entered.ensures (with-has _ _ _ c.with.ensures) in
    let entered = with-has _ _ _ c.with-entered.ensures in
    subst P (sym c.in-Go.is) (agree-go c.with_passed.result c.args.rules.now (repeat_of c.args.p.now) _ _ _ _ (c.with_passed.ensures.all _ left) (c.with_passed.ensures.all _ entered) c.with_passed.ensures.passed)

pub returns-in-Castle : goal.returns-in-Castle
returns-in-Castle c =
    let P : Move → Type 0 = λ m. AgreeOutside c.castle_squares.result c.args.p.now.cells (cells_after c.args.rules.now (repeat_of c.args.p.now) m) in
    let e = c.castle_squares.ensures in
    subst P (sym c.in-Castle.is) (agree-castle c.castle_squares.result c.args.rules.now (repeat_of c.args.p.now) _ _ _ _ e.king e.king_to e.rook e.rook_to e.gate)

pub returns-in-Drop : goal.returns-in-Drop
returns-in-Drop c =
    let P : Move → Type 0 = λ m. AgreeOutside c.with-in-Drop.result c.args.p.now.cells (cells_after c.args.rules.now (repeat_of c.args.p.now) m) in
    subst P (sym c.in-Drop.is) (agree-drop c.with-in-Drop.result c.args.rules.now (repeat_of c.args.p.now) _ _ (with-has _ _ _ c.with-in-Drop.ensures))
