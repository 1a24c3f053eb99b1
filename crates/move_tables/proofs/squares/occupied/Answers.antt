use Rattle.std.proofs.Common.{◌||◌, ◌==◌, ap, refl, sym, ◌∙◌, arith, is_some}
use Rattle.rules_model.specs.Squares.{cell_at}
use Rattle.move_tables.proofs.BuildLaws.{beyond, member_step, other_step}
use Rattle.move_tables.proofs.squares.occupied.Goals as goal
use Rattle.move_tables.proofs.squares.occupied.Goals.{then-is_piece, else-is_piece}

pub loop-at-preserved : goal.loop-at-preserved
loop-at-preserved c = λ t.
    elim c.if-is_piece.branch [
      | then-is_piece w ↦
          rw w.set-is (w.with-set.ensures t ∙ ap (λ b. b || (t == c.loop-at.at)) (c.loop-at.invariant t) ∙ member_step (λ s. is_some (cell_at c.args.cells.now s)) t c.loop-at.at (sym c.is_piece.ensures ∙ w.if-is_piece.true))
      | else-is_piece w ↦ rw w.set-is (c.loop-at.invariant t ∙ other_step (λ s. is_some (cell_at c.args.cells.now s)) t c.loop-at.at (sym c.is_piece.ensures ∙ w.if-is_piece.false))
    ]

pub returns : goal.returns
returns c = λ t. c.loop-at.invariant t ∙ beyond is_some refl c.args.cells.now t c.loop-at.at (omega (arith, c.prove_board_size.ensures))
