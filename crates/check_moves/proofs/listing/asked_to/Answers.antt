use Rattle.std.proofs.Common.{sym, ◌∙◌, subst}
use Rattle.std.proofs.lemmas.Bool.{or_parts}
use Rattle.rules_model.specs.declared.board.Position.{Position}
use Rattle.rules_model.specs.declared.rules.Rules.{Rules}
use Rattle.square_set.specs.Members.{has}
use Rattle.check_moves.specs.Listing.{AreTakers}
use Rattle.check_moves.proofs.ListingLaws.{in_vain_by, not_all}
use Rattle.check_moves.proofs.listing.asked_to.Goals as goal

pub returns-then-is_none : goal.returns-then-is_none
returns-then-is_none c = λ to low out. absurd (not_all to low out)

pub returns : goal.returns
returns c =
    let s = c.args.board.now in
    let checks = c.args.checks.now in
    let step = c.args.step.now in
    let kind = c.args.kind.0 in
    let takes = c.takers_by-takers.result in
    let By : Rules → Position → Type 0 = λ rules p. AreTakers rules p.side kind checks.kings takes in
    let of_rules = subst (λ (x : Rules). By x c.position.result.now) c.tables-tables.ensures c.takers_by-takers.ensures in
    let takers = subst (By s.rules) c.position.ensures of_rules in
    λ to low out.
    let p = or_parts (has c.and.result to) (has c.args.passed to) (sym (c.or.ensures to) ∙ out) in
    in_vain_by s checks step kind to (has takes to) (has c.closers.result to) (has c.args.passed to)
    (λ ep. c.requires.passed to ep low) (λ no king member. takers king member to low no) (λ no. c.closers.ensures to low no)
    (sym (c.and.ensures to) ∙ p.0) p.1
