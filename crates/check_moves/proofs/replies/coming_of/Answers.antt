use Rattle.std.proofs.Common.{◌≡◌, length, sym, subst}
use Rattle.rules_model.specs.declared.board.Position.{Position}
use Rattle.rules_model.specs.declared.moves.Move.{Move}
use Rattle.rules_model.specs.Moves.{IsFitMove}
use Rattle.check_moves.specs.Replies.{IsComing}
use Rattle.check_moves.proofs.ReplyLaws.{drop-comes}
use Rattle.check_moves.proofs.replies.coming_of.Goals as goal

pub returns-in-Drop : goal.returns-in-Drop
returns-in-Drop c =
    let s = c.args.board.now in
    let size = subst (λ (x : Position). length x.cells ≡ 120) c.position.ensures c.prove_position_sizes.ensures.cells in
    let fit = subst (λ (x : Move). IsFitMove x) c.in-Drop.is c.requires.move_fits in
    subst (λ (x : Move). IsComing s x (record { kind = c.in-Drop.kind; from = c.in-Drop.to.0; to = c.in-Drop.to.0 })) (sym c.in-Drop.is)
    (drop-comes s size c.in-Drop.kind c.in-Drop.to fit.1)
