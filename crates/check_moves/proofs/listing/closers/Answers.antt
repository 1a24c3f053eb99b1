use Rattle.std.proofs.Common.{◌==◌, sym, ◌∙◌, subst, arith}
use Rattle.std.specs.Prelude.{IfSome}
use Rattle.std.proofs.lemmas.Bool.{or_parts}
use Rattle.rules_model.specs.declared.board.Position.{Position}
use Rattle.rules_model.specs.declared.rules.Rules.{Rules}
use Rattle.square_set.specs.Members.{has}
use Rattle.attack_tables.specs.Masks.{NeverTakes}
use Rattle.check_moves.specs.Listing.{IsApart, IsToClose}
use Rattle.check_moves.proofs.ListingLaws.{not_all}
use Rattle.check_moves.proofs.listing.closers.Goals as goal

pub takers_of-takers-requires-clause-at : goal.takers_of-takers-requires-clause-at
takers_of-takers-requires-clause-at c = (subst (λ o. IfSome o (IsToClose c.args.board.now)) c.in-Some.is c.requires.step).flight.small

pub with-requires : goal.with-requires
with-requires c =
    let small = (subst (λ o. IfSome o (IsToClose c.args.board.now)) c.in-Some.is c.requires.step).flight.king.small in
    omega (arith, small)

pub returns-in-None : goal.returns-in-None
returns-in-None c = λ to low out. absurd (not_all to low out)

pub returns-in-Some : goal.returns-in-Some
returns-in-Some c =
    let s = c.args.board.now in
    let flight = c.in-Some.flight in
    let kind = c.args.kind.0 in
    λ to low out.
    let w = or_parts (has c.or.result to) (to == flight.king.at) (sym (c.with.ensures to) ∙ out) in
    let o = or_parts (has c.takers_of-takers.result to) (has flight.target to) (sym (c.or.ensures to) ∙ w.0) in
    let never = c.takers_of-takers.ensures to low o.0 in
    let Never : Rules → Position → Type 0 = λ rules p. NeverTakes rules p.side kind to flight.to in
    let of_rules = subst (λ (x : Rules). Never x c.position.result.now) c.tables.ensures never in
    let of_p = subst (Never s.rules) c.position.ensures of_rules in
    subst (λ o. IsApart s o kind to) (sym c.in-Some.is) (w.1, o.1, of_p)
