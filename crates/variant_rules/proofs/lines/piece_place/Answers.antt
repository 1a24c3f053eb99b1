use Rattle.std.proofs.Common.{[], sym, ap, ◌∙◌, arith, below_more}
use Rattle.std.specs.Str.{bytes_eq}
use Rattle.variant_options.specs.PieceTable.{PieceRow, pieces, wordless}
use Rattle.variant_rules.proofs.TableLemmas.{find_first, find_none}
use Rattle.variant_rules.proofs.lines.piece_place.Goals as goal

pub returns-then-eq-clause-is : goal.returns-then-eq-clause-is
returns-then-eq-clause-is c =
    sym
    (find_first (λ piece. bytes_eq piece.key c.args.key.now) pieces c.loop-place.place (wordless [])
    c.loop-place-test.true
    (ap (λ (row : PieceRow). bytes_eq row.key c.args.key.now) (sym c.piece_at-piece.ensures)
    ∙ sym c.eq.ensures
    ∙ c.if-eq.true)
    c.loop-place.invariant)

pub loop-place-preserved : goal.loop-place-preserved
loop-place-preserved c =
    below_more _ _ c.loop-place.invariant
    (ap (λ (row : PieceRow). bytes_eq row.key c.args.key.now) (sym c.piece_at-piece.ensures)
    ∙ sym c.eq.ensures
    ∙ c.if-eq.false)

pub returns-clause-is : goal.returns-clause-is
returns-clause-is c =
    sym
    (find_none (λ piece. bytes_eq piece.key c.args.key.now) pieces (wordless [])
    (λ k l. c.loop-place.invariant k (omega (arith, l, c.loop-place-test.false))))
