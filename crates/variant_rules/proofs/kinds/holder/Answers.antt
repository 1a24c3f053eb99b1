use Rattle.std.proofs.Common.{[], sym, ap, ◌∙◌, arith, below_more}
use Rattle.rules_model.specs.Kinds.{names}
use Rattle.variant_options.specs.PieceTable.{pieces, wordless}
use Rattle.variant_model.specs.PieceLetters.{piece_letter}
use Rattle.variant_rules.proofs.TableLemmas.{find_first, find_none}
use Rattle.variant_rules.proofs.kinds.holder.Goals as goal

pub returns-then-names-clause-is : goal.returns-then-names-clause-is
returns-then-names-clause-is c =
    sym
    (find_first (λ piece. names (piece_letter c.args.section.now.0 c.args.section.now.1 piece.key) c.args.kind) pieces c.loop-place.place (wordless []) c.loop-place-test.true
    (ap (λ letter. names letter c.args.kind) (sym c.letter_at.ensures) ∙ sym c.names.ensures ∙ c.if-names.true) c.loop-place.invariant)

pub loop-place-preserved : goal.loop-place-preserved
loop-place-preserved c =
    below_more _ _ c.loop-place.invariant
    (ap (λ letter. names letter c.args.kind) (sym c.letter_at.ensures) ∙ sym c.names.ensures ∙ c.if-names.false)

pub returns-clause-is : goal.returns-clause-is
returns-clause-is c =
    sym
    (find_none (λ piece. names (piece_letter c.args.section.now.0 c.args.section.now.1 piece.key) c.args.kind) pieces (wordless [])
    (λ k l. c.loop-place.invariant k (omega (arith, l, c.loop-place-test.false))))
