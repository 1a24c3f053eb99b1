use Rattle.std.proofs.Common.{sym, ◌∙◌, subst, arith}
use Rattle.std.proofs.lemmas.Bool.{OnTrue_at, OnTrue_from, ne_eqb, not-true}
use Rattle.rules_model.specs.declared.board.Position.{Position}
use Rattle.rules_model.specs.declared.rules.Rules.{Rules}
use Rattle.check_moves.specs.Checks.{ReachesNone}
use Rattle.check_moves.proofs.FlightLaws.{moved-by, stays-open}
use Rattle.check_moves.proofs.flights.stays_open.Goals as goal

pub returns : goal.returns
returns c =
    let s = c.args.board.now in
    let flight = c.args.flight.now in
    let at = flight.king.at in
    let kind = c.args.kind in
    let from = c.args.from in
    let to = c.args.to in
    let moved = c.with-moved.result in
    let occupied = c.occupied.ensures _ _ _ c.sets.ensures in
    let later = c.prove_moved.ensures from to (let l = c.requires.from in omega (arith, l)) (let l = c.requires.to in omega (arith, l)) in
    let leap = OnTrue_at c.if-not-is_leap.false c.is_leap.ensures in
    let Spared : Rules → Position → Type 0 = λ rules p. ReachesNone rules p.side kind to moved flight.target in
    OnTrue_from _ _ (λ told.
    let quiet = c.reaches_some.ensures (not-true c.reaches_some.result told) in
    let of_rules = subst (λ (x : Rules). Spared x c.position.result.now) c.tables-tables.ensures quiet in
    let spared = subst (Spared s.rules) c.position.ensures of_rules in
    stays-open s flight c.requires.flight kind from to
    (ne_eqb from at c.if-from-king.false) (ne_eqb from flight.to c.if-from-flight.false) (ne_eqb to at c.if-to-king.false) (ne_eqb to flight.to c.if-to-flight.false)
    (sym c.has.ensures ∙ c.if-not-has.false) c.occupied.result later.set moved occupied later.is
    (leap later.set)
    (moved-by flight.stepped c.without.result moved from to c.without.ensures c.with-moved.ensures)
    (λ board on. spared board on flight.to c.requires.flight.target))
