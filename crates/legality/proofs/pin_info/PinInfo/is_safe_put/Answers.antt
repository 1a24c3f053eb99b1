use Rattle.std.proofs.Common.{not, length, ap, sym, subst, ◌∙◌}
use Rattle.rules_model.specs.declared.rules.Rules.{Rules}
use Rattle.rules_model.specs.Attacks.{king_attacked}
use Rattle.rules_model.specs.Legal.{is_safe}
use Rattle.rules_model.specs.Next.{next_repeat}
use Rattle.rules_model.specs.Repeats.{repeat_of}
use Rattle.rules_model.specs.Sides.{other}
use Rattle.next_position.specs.Puts.{put_on}
use Rattle.sound_play.proofs.SizeLaws.{cells_after-size}
use Rattle.board_sets.specs.Sets.{AreSets}
use Rattle.legality.proofs.PinLaws.{board_by, holds_men, put_held}
use Rattle.legality.proofs.pin_info.PinInfo.is_safe_put.Goals as goal

pub king_attacked_by-requires : goal.king_attacked_by-requires
king_attacked_by-requires c =
    let rules = c.args.self.now.tables.now in
    let p = c.args.self.now.p.now in
    let put = c.args.put in
    let same = c.rules.ensures.is in
    let Before : Rules → Type 0 = λ rules'. AreSets rules' p.side p.cells c.args.self.now.sets in
    let After : Rules → Type 0 = λ rules'. AreSets rules' p.side (put_on put p.cells) c.put-sets.result in
    let are = subst After same (c.put-sets.ensures p.cells c.prove_position_sizes.ensures.cells (subst Before (sym same) c.args.self.now.are_sets)) in
    let size = ap length (sym c.requires.after) ∙ cells_after-size rules (repeat_of p) c.args.m.now ∙ c.prove_position_sizes.ensures.cells in
    let held = put_held (other p.side) p.cells put c.requires.own in
    record { kings = (c.sets_are_on_board.ensures _ _ _ _ size are).kings; men = holds_men _ _ _ _ _ are held }

pub returns : goal.returns
unfolding is_safe next_repeat
returns c =
    let rules = c.args.self.now.tables.now in
    let p = c.args.self.now.p.now in
    let put = c.args.put in
    let same = c.rules.ensures.is in
    let Before : Rules → Type 0 = λ rules'. AreSets rules' p.side p.cells c.args.self.now.sets in
    let After : Rules → Type 0 = λ rules'. AreSets rules' p.side (put_on put p.cells) c.put-sets.result in
    let are = subst After same (c.put-sets.ensures p.cells c.prove_position_sizes.ensures.cells (subst Before (sym same) c.args.self.now.are_sets)) in
    let held = put_held (other p.side) p.cells put c.requires.own in
    let by = board_by _ _ _ _ _ are held c.occupied-occupied.result (c.occupied-occupied.ensures _ _ _ are) in
    ap (λ b. not b) (c.king_attacked_by.ensures _ by are.kings ∙ ap (λ cells. king_attacked rules cells p.side) (sym c.requires.after))
