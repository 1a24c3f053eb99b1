use Rattle.std.proofs.Common.{◌≡◌, sym, ap, ◌∙◌, subst}
use Rattle.rules_model.specs.declared.board.Kind.{Kind}
use Rattle.rules_model.specs.declared.rules.Rules.{Rules}
use Rattle.rules_model.specs.Next.{after_promo}
use Rattle.rules_model.specs.Repeats.{repeat_of}
use Rattle.check_moves.specs.Checks.{ComesQuietly}
use Rattle.check_moves.proofs.ComeLaws.{go_is_quiet, same_is}
use Rattle.check_moves.proofs.checks.go_may_check.Goals as goal

pub returns-else-is_ep : goal.returns-else-is_ep
returns-else-is_ep c = λ quiet.
    let rules = c.args.tables.now in
    let p = c.args.p.now in
    let from = c.args.from in
    let to = c.args.to in
    let kind : c.kind_after-kind.result ≡ (after_promo rules c.in-Some.piece c.args.promo).kind = c.kind_after-kind.ensures ∙ ap (λ (x : Rules). (after_promo x c.in-Some.piece c.args.promo).kind) c.rules.ensures.is in
    go_is_quiet rules (repeat_of p) c.prove_position_sizes.ensures.cells from to c.args.promo c.in-Some.piece c.requires.from c.requires.to
    (sym c.cell_on.ensures ∙ c.in-Some.is)
    (same_is c.in-Some.piece.side p.side (sym c.is.ensures ∙ c.if-not-is.false))
    (sym c.is_ep.ensures ∙ c.if-is_ep.false)
    (subst (λ (x : Kind). ComesQuietly rules p.side x p.cells from.0 to.0) kind (c.may_come.ensures quiet))
