use Rattle.std.proofs.Common.{sym, ap, subst, ◌∙◌}
use Rattle.rules_model.specs.declared.board.Side.{Side}
use Rattle.rules_model.specs.Attacks.{king_attacked}
use Rattle.rules_model.specs.Legal.{gives_check}
use Rattle.rules_model.specs.Next.{next_repeat}
use Rattle.rules_model.specs.Sides.{other}
use Rattle.board_sets.specs.Sets.{AreSets}
use Rattle.legality.proofs.pin_info.PinInfo.checks.Goals as goal

pub king_attacked_on-requires : goal.king_attacked_on-requires
king_attacked_on-requires c =
    let rules = c.args.self.now.tables.now in
    let Turned : Side → Type 0 = λ side. AreSets rules side c.args.cells.now c.turned-sets.result in
    subst Turned (sym c.other.ensures) (c.turned-sets.ensures _ _ _ c.sets_after.ensures)

pub returns : goal.returns
unfolding gives_check next_repeat
returns c =
    let rules = c.args.self.now.tables.now in
    let side = other c.args.self.now.p.now.side in
    c.king_attacked_on.ensures ∙ ap (king_attacked rules c.args.cells.now) c.other.ensures ∙ ap (λ cells. king_attacked rules cells side) c.requires.after
