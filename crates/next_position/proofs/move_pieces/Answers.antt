use Rattle.std.proofs.Common.{◌∙◌, ap, sym}
use Rattle.rules_model.specs.Repeats.{repeat_of}
use Rattle.next_position.specs.Parts.{cells_by}
use Rattle.next_position.proofs.PartLaws.{cells_after-by}
use Rattle.next_position.proofs.move_pieces.Goals as goal

pub returns : goal.returns
returns c =
    let rules = c.args.rules.now in
    let p = c.args.p.now in
    let m = c.args.m.now in
    c.write.ensures ∙ ap (cells_by rules p.side c.is_passing-passing.result m) c.requires.copy ∙ ap (λ b. cells_by rules p.side b m p.cells) c.is_passing-passing.ensures ∙ sym (cells_after-by rules (repeat_of p) m)
