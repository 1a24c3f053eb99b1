use Rattle.std.proofs.Common.{◌||◌, ◌==◌, ap, sym, ◌∙◌, arith}
use Rattle.move_tables.specs.Spots.{lies_in}
use Rattle.move_tables.proofs.BuildLaws.{region_beyond, member_step, other_step}
use Rattle.move_tables.proofs.region.region_set.Goals as goal
use Rattle.move_tables.proofs.region.region_set.Goals.{then-is_of, else-is_of}

pub loop-at-preserved : goal.loop-at-preserved
loop-at-preserved c = λ t.
    elim c.if-is_of.branch [
      | then-is_of w ↦
          rw w.set-is (w.with-set.ensures t ∙ ap (λ b. b || (t == c.loop-at.at)) (c.loop-at.invariant t) ∙ member_step (λ s. lies_in c.args.region.now s) t c.loop-at.at (sym c.is_of.ensures ∙ w.if-is_of.true))
      | else-is_of w ↦ rw w.set-is (c.loop-at.invariant t ∙ other_step (λ s. lies_in c.args.region.now s) t c.loop-at.at (sym c.is_of.ensures ∙ w.if-is_of.false))
    ]

pub returns : goal.returns
returns c = λ t. c.loop-at.invariant t ∙ region_beyond c.args.region.now.squares t c.loop-at.at (omega (arith, c.prove_region_size.ensures))
