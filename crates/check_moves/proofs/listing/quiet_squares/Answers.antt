use Rattle.std.proofs.Common.{◌<◌, ◌==◌, not, sym, ◌∙◌, subst, arith}
use Rattle.std.specs.Prelude.{IfSome}
use Rattle.std.proofs.lemmas.Bool.{and_parts, or_parts}
use Rattle.square_set.specs.Members.{has}
use Rattle.check_moves.specs.declared.flights.Flight.{Flight}
use Rattle.check_moves.specs.Listing.{IsLeft}
use Rattle.check_moves.proofs.ListingLaws.{not_true}
use Rattle.check_moves.proofs.listing.quiet_squares.Goals as goal

pub with-requires : goal.with-requires
with-requires c =
    let small = subst (λ o. IfSome o (λ (flight : Flight). flight.king.at < 120)) c.in-Some.is c.requires in
    omega (arith, small)

pub returns-in-None-clause-step : goal.returns-in-None-clause-step
returns-in-None-clause-step c = λ s h. subst (λ o. IsLeft o s) (sym c.in-None.is) tt

pub returns-in-Some-clause-checks : goal.returns-in-Some-clause-checks
returns-in-Some-clause-checks c = λ s h.
    let flight = c.in-Some.flight in
    let p = and_parts (has c.and-shut.result s) (not (has c.with.result s)) (sym (c.minus.ensures s) ∙ h) in
    (and_parts (has c.args.checks.now.shut s) (has flight.shut s) (sym (c.and-shut.ensures s) ∙ p.0)).0

pub returns-in-Some-clause-step : goal.returns-in-Some-clause-step
returns-in-Some-clause-step c = λ s h.
    let flight = c.in-Some.flight in
    let p = and_parts (has c.and-shut.result s) (not (has c.with.result s)) (sym (c.minus.ensures s) ∙ h) in
    let q = and_parts (has c.args.checks.now.shut s) (has flight.shut s) (sym (c.and-shut.ensures s) ∙ p.0) in
    let o = or_parts (has flight.target s) (s == flight.king.at) (sym (c.with.ensures s) ∙ not_true (has c.with.result s) p.1) in
    subst (λ o. IsLeft o s) (sym c.in-Some.is) (o.1, o.0, q.1)
