use Rattle.std.proofs.Common.{◌≡◌, List, length, take, ap, ◌∙◌, subst, arith}
use Rattle.std.specs.List.{list_any}
use Rattle.std.proofs.Math.Seq.{take-length}
use Rattle.move_tables.specs.declared.line.Line.{Line}
use Rattle.move_tables.specs.Lines.{on_line}
use Rattle.pins.specs.Evasion.{DependsOn}
use Rattle.pins.proofs.DependLaws.{depends_more}
use Rattle.pins.proofs.evasion.lines_way.Goals as goal

pub loop-line-preserved : goal.loop-line-preserved
loop-line-preserved c =
    depends_more (λ line set. on_line line set c.args.target) c.args.lines.now c.loop-line.line-index _ c.loop-line.way c.line_way.result c.or-way.result c.loop-line-test.true c.loop-line.invariant c.line_way.ensures c.or-way.ensures

pub returns : goal.returns
returns c =
    let e : c.loop-line.line-index ≡ length c.args.lines.now = omega arith in
    let whole : take c.loop-line.line-index c.args.lines.now ≡ c.args.lines.now = ap (λ k. take k c.args.lines.now) e ∙ take-length c.args.lines.now in
    let P : List Line → Type 0 = λ xs. DependsOn (λ set. list_any (λ line. on_line line set c.args.target) xs) c.loop-line.way in
    subst P whole c.loop-line.invariant
