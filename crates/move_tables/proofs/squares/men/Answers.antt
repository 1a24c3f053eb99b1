use Rattle.std.proofs.Common.{◌||◌, ◌==◌, ap, refl, sym, ◌∙◌, arith, true}
use Rattle.rules_model.specs.Attacks.{is_own}
use Rattle.rules_model.specs.Squares.{cell_at}
use Rattle.move_tables.proofs.BuildLaws.{beyond, member_step, other_step}
use Rattle.move_tables.proofs.squares.men.Goals as goal
use Rattle.move_tables.proofs.squares.men.Goals.{then-is_man, else-is_man}

pub loop-at-preserved : goal.loop-at-preserved
loop-at-preserved c = λ t.
    elim c.if-is_man.branch [
      | then-is_man w ↦
          rw w.set-is (w.with-set.ensures t ∙ ap (λ b. b || (t == c.loop-at.at)) (c.loop-at.invariant t) ∙ member_step (λ s. is_own c.args.side (λ kind. true) (cell_at c.args.cells.now s)) t c.loop-at.at (sym c.is_man.ensures ∙ w.if-is_man.true))
      | else-is_man w ↦ rw w.set-is (c.loop-at.invariant t ∙ other_step (λ s. is_own c.args.side (λ kind. true) (cell_at c.args.cells.now s)) t c.loop-at.at (sym c.is_man.ensures ∙ w.if-is_man.false))
    ]

pub returns : goal.returns
returns c = λ t. c.loop-at.invariant t ∙ beyond (is_own c.args.side (λ kind. true)) refl c.args.cells.now t c.loop-at.at (omega (arith, c.prove_board_size.ensures))
