use Rattle.std.proofs.Common.{◌≡◌, Some, refl, sym, ap, ◌∙◌, subst, arith}
use Rattle.std.proofs.lemmas.Bool.{or_parts}
use Rattle.rules_model.specs.declared.board.Position.{Position}
use Rattle.rules_model.specs.declared.rules.Rules.{Rules}
use Rattle.rules_model.specs.Kinds.{is_king, is_pawn}
use Rattle.rules_model.specs.Sides.{other}
use Rattle.rules_model.specs.Squares.{cell_at}
use Rattle.check_moves.proofs.ComeLaws.{same_is}
use Rattle.check_moves.proofs.replies.leaper_on.Goals as goal

pub returns-else-not-is : goal.returns-else-not-is
returns-else-not-is c =
    let s = c.args.board.now in
    let from = c.args.from in
    let piece = c.in-Some.piece in
    let other_kind = or_parts (is_pawn c.rules.result.now piece.kind) (is_king c.rules.result.now piece.kind) (sym c.is_king_or_pawn.ensures ∙ c.if-is_king_or_pawn.false) in
    let there : cell_at s.position.cells from ≡ Some piece = subst (λ (p : Position). cell_at p.cells from ≡ Some piece) c.position-p.ensures (sym c.cell_on.ensures ∙ c.in-Some.is) in
    record {
      small = omega arith;
      letter = omega arith;
      plain = c.requires.plain;
      no_pawn = ap (λ (x : Rules). is_pawn x piece.kind) (sym c.rules.ensures) ∙ other_kind.0;
      no_king = ap (λ (x : Rules). is_king x piece.kind) (sym c.rules.ensures) ∙ other_kind.1;
      piece = piece;
      there = there;
      of_side = same_is piece.side c.other.result (sym c.is.ensures ∙ c.if-not-is.false) ∙ c.other.ensures ∙ ap (λ (p : Position). other p.side) c.position-p.ensures;
      of_kind = refl;
    }
