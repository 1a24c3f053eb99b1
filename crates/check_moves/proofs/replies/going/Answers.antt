use Rattle.std.proofs.Common.{◌≡◌, false, None, Some, length, sym, ap, ◌∙◌, subst}
use Rattle.rules_model.specs.declared.board.Kind.{Kind}
use Rattle.rules_model.specs.declared.board.Position.{Position}
use Rattle.rules_model.specs.declared.moves.Move.TheVariants.{Go}
use Rattle.rules_model.specs.declared.rules.Rules.{Rules}
use Rattle.rules_model.specs.Next.{after_promo}
use Rattle.rules_model.specs.Pawns.{is_ep}
use Rattle.rules_model.specs.Squares.{cell_at}
use Rattle.check_moves.specs.Replies.{IsComing}
use Rattle.check_moves.proofs.ComeLaws.{same_is}
use Rattle.check_moves.proofs.ReplyLaws.{go-comes}
use Rattle.check_moves.proofs.replies.going.Goals as goal

pub returns-else-is_ep : goal.returns-else-is_ep
returns-else-is_ep c =
    let s = c.args.board.now in
    let from = c.args.from in
    let to = c.args.to in
    let piece = c.in-Some.piece in
    let p = c.position-p.result.now in
    let is = c.position-p.ensures in
    let size = subst (λ (x : Position). length x.cells ≡ 120) is c.prove_position_sizes.ensures.cells in
    let there = subst (λ (x : Position). cell_at x.cells from.0 ≡ Some piece) is (sym c.cell_on.ensures ∙ c.in-Some.is) in
    let own = same_is piece.side p.side (sym c.is.ensures ∙ c.if-not-is.false) ∙ ap (λ (x : Position). x.side) is in
    let no_ep = subst (λ (x : Position). is_ep x.ep to.0 ≡ false) is (sym c.is_ep.ensures ∙ c.if-is_ep.false) in
    let kind = c.kind_after-kind.ensures ∙ ap (λ (x : Rules). (after_promo x piece c.args.promo).kind) c.rules.ensures in
    subst (λ (x : Kind). IsComing s (Go from to c.args.promo None) (record { kind = x; from = from.0; to = to.0 })) (sym kind)
    (go-comes s size from to c.args.promo piece c.requires.from c.requires.to there own no_ep)
