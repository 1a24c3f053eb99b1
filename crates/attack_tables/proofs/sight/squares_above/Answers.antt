use Rattle.std.proofs.Common.{◌≡◌, ◌&&◌, ◌||◌, ◌==◌, nat_lt, ap, sym, ◌∙◌, arith}
use Rattle.attack_tables.specs.Sights.{is_above}
use Rattle.move_tables.proofs.BuildLaws.{member_step, other_step}
use Rattle.attack_tables.proofs.sight.squares_above.Goals as goal
use Rattle.attack_tables.proofs.sight.squares_above.Goals.{then-is_above, else-is_above}

pub loop-square-preserved : goal.loop-square-preserved
loop-square-preserved c = λ s.
    elim c.if-is_above.branch [
      | then-is_above w ↦
          rw w.set-is (w.with-set.ensures s ∙ ap (λ b. b || (s == c.loop-square.square)) (c.loop-square.invariant s) ∙ member_step (is_above c.args.at) s c.loop-square.square (sym c.is_above.ensures ∙ w.if-is_above.true))
      | else-is_above w ↦ rw w.set-is (c.loop-square.invariant s ∙ other_step (is_above c.args.at) s c.loop-square.square (sym c.is_above.ensures ∙ w.if-is_above.false))
    ]

pub returns : goal.returns
returns c = λ s. let e : c.loop-square.square ≡ 120 = omega arith in c.loop-square.invariant s ∙ ap (λ n. nat_lt s n && is_above c.args.at s) e
