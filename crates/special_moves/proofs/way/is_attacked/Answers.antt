use Rattle.std.proofs.Common.{ap, sym, ◌∙◌}
use Rattle.rules_model.specs.Attacks.{is_own_king}
use Rattle.rules_model.specs.Sides.{other}
use Rattle.rules_model.specs.Squares.{cell_at}
use Rattle.attack_tables.proofs.AttackLaws.{attacks_by_piece, other_other, own_board}
use Rattle.special_moves.proofs.way.is_attacked.Goals as goal

pub attacks_king-requires-clause-men : goal.attacks_king-requires-clause-men
attacks_king-requires-clause-men c = rw c.other-by.ensures (λ s h. sym (c.requires.sets.enemies s) ∙ h)

pub piece_attacks-requires-clause-men : goal.piece_attacks-requires-clause-men
piece_attacks-requires-clause-men c = rw c.other-by.ensures (λ s h. sym (c.requires.sets.enemies s) ∙ h)

pub returns-then-holds_own_king : goal.returns-then-holds_own_king
returns-then-holds_own_king c =
    let side = c.args.p.now.side in
    let cells = c.args.p.now.cells in
    let king = ap (λ s. is_own_king c.args.tables.now s (cell_at cells c.args.at.0)) (other_other side) ∙ ap (λ r. is_own_king r side (cell_at cells c.args.at.0)) (sym c.rules.ensures.is) ∙ sym c.holds_own_king.ensures ∙ c.if-holds_own_king.true in
    let by_king = rw c.other-by.ensures at c.attacks_king.ensures in
    by_king cells (own_board (other side) cells c.args.sets.now.enemies c.occupied-occupied.result c.requires.sets.enemies (c.occupied-occupied.ensures _ _ _ c.requires.sets)) king

pub returns-else-holds_own_king : goal.returns-else-holds_own_king
returns-else-holds_own_king c =
    let side = c.args.p.now.side in
    let cells = c.args.p.now.cells in
    let none = ap (λ s. is_own_king c.args.tables.now s (cell_at cells c.args.at.0)) (other_other side) ∙ ap (λ r. is_own_king r side (cell_at cells c.args.at.0)) (sym c.rules.ensures.is) ∙ sym c.holds_own_king.ensures ∙ c.if-holds_own_king.false in
    let by_piece = rw c.other-by.ensures at c.piece_attacks.ensures in
    by_piece cells (own_board (other side) cells c.args.sets.now.enemies c.occupied-occupied.result c.requires.sets.enemies (c.occupied-occupied.ensures _ _ _ c.requires.sets))
    ∙ sym (attacks_by_piece c.args.tables.now cells (other side) c.args.at.0 none)
