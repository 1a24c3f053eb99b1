use Rattle.std.proofs.Common.{◌≡◌, false, is_some, refl, sym, ap, ◌∙◌, subst, arith}
use Rattle.rules_model.specs.declared.board.Position.{Position}
use Rattle.rules_model.specs.declared.board.Side.{Side}
use Rattle.rules_model.specs.declared.rules.Rules.{Rules}
use Rattle.rules_model.specs.Sides.{other}
use Rattle.rules_model.specs.Squares.{cell_at}
use Rattle.square_set.proofs.CoverLaws.{has-zero}
use Rattle.check_moves.specs.Flights.{is_castling_step}
use Rattle.check_moves.specs.Shut.{AreShut}
use Rattle.check_moves.proofs.FlightLaws.{flight-of, with-alone, with-itself}
use Rattle.check_moves.proofs.flights.flight_to.Goals as goal

pub shut-shut-requires-clause-kings : goal.shut-shut-requires-clause-kings
shut-shut-requires-clause-kings c = λ s h. let e = with-alone (record { 0 = 0 }) c.with-target.result c.args.to s (has-zero (record { 0 = 0 }) refl s) c.with-target.ensures h in omega arith

pub returns : goal.returns
returns c =
    let s = c.args.board.now in
    let king = c.args.king.now in
    let to = c.args.to in
    let p = c.position-p.result.now in
    let target = c.with-target.result in
    let stepped = c.with-stepped.result in
    let of_p : is_some (cell_at p.cells to) ≡ false = ap is_some (sym c.cell_on.ensures) ∙ sym c.is_some.ensures ∙ c.if-is_some.false in
    let empty : is_some (cell_at s.position.cells to) ≡ false = subst (λ (x : Position). is_some (cell_at x.cells to) ≡ false) c.position-p.ensures of_p in
    let no_castling : is_castling_step s.rules (other s.position.side) king.at to ≡ false =
    ap (λ (x : Rules). is_castling_step x (other s.position.side) king.at to) (sym (c.rules.ensures.is ∙ c.tables-tables.ensures))
    ∙ ap (λ (x : Side). is_castling_step c.rules.result.now x king.at to) (sym (c.other.ensures ∙ ap (λ (q : Position). other q.side) c.position-p.ensures))
    ∙ sym c.is_castling_step.ensures ∙ c.if-is_castling_step.false in
    let By : Rules → Position → Type 0 = λ rules x. AreShut rules x.side x.cells stepped target c.shut-shut.result in
    let of_rules = subst (λ (x : Rules). By x p) c.tables-tables.ensures c.shut-shut.ensures in
    let are = subst (By s.rules) c.position-p.ensures of_rules in
    let occupied = c.occupied.ensures _ _ _ c.sets-sets.ensures in
    flight-of s king to c.occupied.result c.without.result stepped target c.shut-shut.result c.requires (omega arith) empty no_castling occupied c.without.ensures c.with-stepped.ensures (with-itself (record { 0 = 0 }) target to c.with-target.ensures) are
