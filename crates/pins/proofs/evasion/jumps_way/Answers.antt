use Rattle.std.proofs.Common.{◌≡◌, List, length, take, ap, ◌∙◌, subst, arith}
use Rattle.std.specs.List.{list_any}
use Rattle.std.proofs.Math.Seq.{take-length}
use Rattle.move_tables.specs.declared.jump.Jump.{Jump}
use Rattle.move_tables.specs.Lines.{by_jump}
use Rattle.pins.specs.Evasion.{DependsOn}
use Rattle.pins.proofs.DependLaws.{depends_more}
use Rattle.pins.proofs.evasion.jumps_way.Goals as goal

pub loop-jump-preserved : goal.loop-jump-preserved
loop-jump-preserved c =
    depends_more (λ jump set. by_jump jump set c.args.target) c.args.jumps.now c.loop-jump.jump-index _ c.loop-jump.way c.jump_way.result c.or-way.result c.loop-jump-test.true c.loop-jump.invariant c.jump_way.ensures c.or-way.ensures

pub returns : goal.returns
returns c =
    let e : c.loop-jump.jump-index ≡ length c.args.jumps.now = omega arith in
    let whole : take c.loop-jump.jump-index c.args.jumps.now ≡ c.args.jumps.now = ap (λ k. take k c.args.jumps.now) e ∙ take-length c.args.jumps.now in
    let P : List Jump → Type 0 = λ xs. DependsOn (λ set. list_any (λ jump. by_jump jump set c.args.target) xs) c.loop-jump.way in
    subst P whole c.loop-jump.invariant
