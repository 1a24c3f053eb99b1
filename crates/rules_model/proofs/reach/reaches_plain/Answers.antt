use Rattle.std.proofs.Common.{◌≡◌, true, arith, sym}
use Rattle.foundation.proofs.CountLemmas.{any_below-true}
use Rattle.rules_model.specs.Reach.{ray_of, reaches_over}
use Rattle.rules_model.proofs.ReachLemmas.{stepping}
use Rattle.rules_model.proofs.reach.reaches_plain.Goals as goal

pub returns-then-gets_over : goal.returns-then-gets_over
returns-then-gets_over c =
    let hit : reaches_over c.args.cells.now c.args.term.now.way c.term_ray-ray.result c.args.to.0 c.loop-between.between ≡ true = grind (arith, stepping) in
    let here : reaches_over c.args.cells.now c.args.term.now.way (ray_of c.args.board c.args.side c.args.term.now c.args.from) c.args.to.0 c.loop-between.between ≡ true = rw (← c.term_ray-ray.ensures.is) hit in
    sym (any_below-true _ _ c.loop-between.between c.loop-between-test.true here)
