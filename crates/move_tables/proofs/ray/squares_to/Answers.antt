use Rattle.std.proofs.Common.{◌≡◌, suc, ◌+◌, ◌||◌, ap, sym, ◌∙◌, arith}
use Rattle.std.proofs.lemmas.Nat.Bits.{bit_at-zero}
use Rattle.foundation.proofs.CountLemmas.{any_below-zero, any_below-more}
use Rattle.rules_model.specs.Reach.{is_at}
use Rattle.rules_model.specs.Squares.{step_to}
use Rattle.move_tables.specs.Rays.{on_ray}
use Rattle.move_tables.proofs.ray.squares_to.Goals as goal

pub loop-i-init : goal.loop-i-init
loop-i-init c = λ t. rw (bit_at-zero t) (sym (any_below-zero (λ k. is_at t (step_to c.args.ray.now (suc k)))))

pub loop-i-preserved : goal.loop-i-preserved
loop-i-preserved c = λ t.
    let e : c.loop-i.i + 1 ≡ suc c.loop-i.i = omega arith in
    c.with_next-squares.ensures t ∙ ap (λ b. b || is_at t c.step.result) (c.loop-i.invariant t)
    ∙ ap (λ o. on_ray c.args.ray.now c.loop-i.i t || is_at t o) (c.step.ensures.is ∙ ap (step_to c.args.ray.now) e)
    ∙ sym (any_below-more (λ k. is_at t (step_to c.args.ray.now (suc k))) c.loop-i.i)
