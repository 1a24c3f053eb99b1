use Rattle.std.proofs.Common.{◌≡◌, true, Some, refl, sym, ap, ◌∙◌, subst, arith}
use Rattle.rules_model.specs.declared.board.Position.{Position}
use Rattle.rules_model.specs.declared.rules.Rules.{Rules}
use Rattle.rules_model.specs.Attacks.{is_own_king}
use Rattle.rules_model.specs.Kinds.{is_pawn}
use Rattle.rules_model.specs.Sides.{other}
use Rattle.rules_model.specs.Squares.{cell_at}
use Rattle.check_moves.proofs.FlightLaws.{of-king}
use Rattle.check_moves.proofs.flights.king_on.Goals as goal

pub returns-else-names : goal.returns-else-names
returns-else-names c =
    let s = c.args.board.now in
    let at = c.args.at in
    let king = c.in-Some.king in
    let there : cell_at s.position.cells at ≡ Some king = subst (λ (p : Position). cell_at p.cells at ≡ Some king) c.position-p.ensures (sym c.cell_on.ensures ∙ c.in-Some.is) in
    record {
      small = c.requires.small;
      letter = omega arith;
      plain = c.requires.plain;
      no_pawn = ap (λ (x : Rules). is_pawn x king.kind) (sym c.rules.ensures) ∙ sym c.names.ensures ∙ c.if-names.false;
      only = c.requires.only;
      piece = king;
      there = there;
      of_side = of-king s.rules (other s.position.side) king (subst (λ x. is_own_king s.rules (other s.position.side) x ≡ true) there c.requires.king);
      of_kind = refl;
    }
