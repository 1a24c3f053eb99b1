use Rattle.std.proofs.Common.{◌≡◌, false, Some, length, sym, ap, ◌∙◌, subst}
use Rattle.rules_model.specs.declared.board.Kind.{Kind}
use Rattle.rules_model.specs.declared.board.Position.{Position}
use Rattle.rules_model.specs.declared.rules.Rules.{Rules}
use Rattle.rules_model.specs.Next.{after_promo}
use Rattle.rules_model.specs.Pawns.{is_ep}
use Rattle.rules_model.specs.Squares.{cell_at}
use Rattle.legality.proofs.GoLaws.{on_true}
use Rattle.check_moves.specs.Flights.{StaysOpen}
use Rattle.check_moves.proofs.ComeLaws.{same_is}
use Rattle.check_moves.proofs.FlightLaws.{go-leaves}
use Rattle.check_moves.proofs.TakeLaws.{go-is-taken}
use Rattle.check_moves.proofs.flights.go_leaves.Goals as goal

pub returns-then-to-flight : goal.returns-then-to-flight
returns-then-to-flight c =
    let s = c.args.board.now in
    let flight = c.args.flight.now in
    let from = c.args.from in
    let to = c.args.to in
    let piece = c.in-Some.piece in
    let p = c.position-p.result.now in
    let is = c.position-p.ensures in
    let size = subst (λ (x : Position). length x.cells ≡ 120) is c.prove_position_sizes.ensures.cells in
    let there = subst (λ (x : Position). cell_at x.cells from.0 ≡ Some piece) is (sym c.cell_on.ensures ∙ c.in-Some.is) in
    let own = same_is piece.side p.side (sym c.is.ensures ∙ c.if-not-is.false) ∙ ap (λ (x : Position). x.side) is in
    let no_ep = subst (λ (x : Position). is_ep x.ep to.0 ≡ false) is (sym c.is_ep.ensures ∙ c.if-is_ep.false) in
    on_true c.may_take.result c.may_take.ensures
    (go-is-taken s flight c.requires.flight size from to c.args.promo piece c.requires.from c.requires.to there own no_ep c.if-to-flight.true)

pub returns-else-to-flight : goal.returns-else-to-flight
returns-else-to-flight c =
    let s = c.args.board.now in
    let flight = c.args.flight.now in
    let from = c.args.from in
    let to = c.args.to in
    let piece = c.in-Some.piece in
    let p = c.position-p.result.now in
    let is = c.position-p.ensures in
    let size = subst (λ (x : Position). length x.cells ≡ 120) is c.prove_position_sizes.ensures.cells in
    let there = subst (λ (x : Position). cell_at x.cells from.0 ≡ Some piece) is (sym c.cell_on.ensures ∙ c.in-Some.is) in
    let own = same_is piece.side p.side (sym c.is.ensures ∙ c.if-not-is.false) ∙ ap (λ (x : Position). x.side) is in
    let no_ep = subst (λ (x : Position). is_ep x.ep to.0 ≡ false) is (sym c.is_ep.ensures ∙ c.if-is_ep.false) in
    let kind = c.kind_after-kind.ensures ∙ ap (λ (x : Rules). (after_promo x piece c.args.promo).kind) c.rules.ensures in
    on_true c.stays_open.result c.stays_open.ensures (λ stays.
    go-leaves s flight c.requires.flight size from to c.args.promo piece c.requires.from c.requires.to there own no_ep
    (subst (λ (x : Kind). StaysOpen s flight x from.0 to.0) kind stays))
