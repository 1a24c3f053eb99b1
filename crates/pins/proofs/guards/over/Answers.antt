use Rattle.std.proofs.Common.{◌≡◌, List, length, take, ap, ◌∙◌, subst, arith}
use Rattle.std.specs.List.{list_any}
use Rattle.std.proofs.Math.Seq.{take-length}
use Rattle.move_tables.specs.declared.jump.Jump.{Jump}
use Rattle.move_tables.specs.Lines.{by_jump}
use Rattle.pins.specs.Guards.{Guards}
use Rattle.pins.proofs.GuardLaws.{guards_more}
use Rattle.pins.proofs.guards.over.Goals as goal

pub loop-jump-preserved : goal.loop-jump-preserved
loop-jump-preserved c =
    guards_more (λ jump set. by_jump jump set c.args.target) c.args.jumps.now c.loop-jump.jump-index _ c.args.occupied c.loop-jump.guards c.jump_guards.result c.or-guards.result c.loop-jump-test.true c.loop-jump.invariant c.jump_guards.ensures c.or-guards.ensures

pub returns : goal.returns
returns c =
    let e : c.loop-jump.jump-index ≡ length c.args.jumps.now = omega arith in
    let whole : take c.loop-jump.jump-index c.args.jumps.now ≡ c.args.jumps.now = ap (λ k. take k c.args.jumps.now) e ∙ take-length c.args.jumps.now in
    let P : List Jump → Type 0 = λ xs. Guards (λ set. list_any (λ jump. by_jump jump set c.args.target) xs) c.args.occupied c.loop-jump.guards in
    subst P whole c.loop-jump.invariant
