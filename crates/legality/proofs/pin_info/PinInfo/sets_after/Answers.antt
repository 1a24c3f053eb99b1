use Rattle.std.proofs.Common.{refl, sym, subst}
use Rattle.rules_model.specs.declared.rules.Rules.{Rules}
use Rattle.rules_model.specs.Next.{cells_after}
use Rattle.rules_model.specs.Repeats.{repeat_of}
use Rattle.next_position.specs.Changed.{AgreeOutside}
use Rattle.next_position.proofs.TouchedLemmas.{next-cells}
use Rattle.board_sets.specs.Sets.{AreSets}
use Rattle.legality.proofs.pin_info.PinInfo.sets_after.Goals as goal

pub returns : goal.returns
returns c =
    let p = c.args.self.now.p.now in
    let same = c.rules-rules.ensures.is in
    let Agree : Rules → Type 0 = λ rules. AgreeOutside c.touched-touched.result.squares p.cells (cells_after rules (repeat_of p) c.args.m.now) in
    let Before : Rules → Type 0 = λ rules. AreSets rules p.side p.cells c.args.self.now.sets in
    let After : Rules → Type 0 = λ rules. AreSets rules p.side c.args.cells.now c.after.result in
    let there = subst (AgreeOutside c.touched-touched.result.squares p.cells) (next-cells _ p _ c.args.m.now refl) c.touched-touched.ensures.squares in
    let agree = subst (AgreeOutside c.touched-touched.result.squares p.cells) (sym c.requires.after) (subst Agree same there) in
    subst After same (c.after.ensures p.cells (subst Before (sym same) c.args.self.now.are_sets) agree)
