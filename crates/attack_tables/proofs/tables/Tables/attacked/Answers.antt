use Rattle.std.proofs.Common.{ap, sym, ◌∙◌}
use Rattle.rules_model.specs.Attacks.{is_own_king}
use Rattle.rules_model.specs.Sides.{other}
use Rattle.rules_model.specs.Squares.{cell_at}
use Rattle.attack_tables.proofs.AttackLaws.{attacks_beyond, attacks_by_piece, own_board}
use Rattle.attack_tables.proofs.tables.Tables.attacked.Goals as goal

pub returns-then-at-ge120 : goal.returns-then-at-ge120
returns-then-at-ge120 c = sym (attacks_beyond c.args.self.now c.rules-rules.ensures.fit c.args.p.now.cells c.args.by c.args.at.0 c.prove_board_size.ensures c.if-at-ge120.true)

pub attacks_king-requires-clause-men : goal.attacks_king-requires-clause-men
attacks_king-requires-clause-men c = λ s h. sym (c.men-men.ensures s) ∙ h

pub piece_attacks-requires-clause-men : goal.piece_attacks-requires-clause-men
piece_attacks-requires-clause-men c = λ s h. sym (c.men-men.ensures s) ∙ h

pub returns-then-is_own_king : goal.returns-then-is_own_king
returns-then-is_own_king c =
    let king =
    ap (λ r. is_own_king r (other c.args.by) (cell_at c.args.p.now.cells c.args.at.0)) (sym c.rules-rules.ensures.is)
    ∙ ap (λ side. is_own_king c.rules-rules.result.now side (cell_at c.args.p.now.cells c.args.at.0)) (sym c.other.ensures)
    ∙ ap (is_own_king c.rules-rules.result.now c.other.result) (sym c.cell_on.ensures)
    ∙ sym c.is_own_king.ensures ∙ c.if-is_own_king.true in
    c.attacks_king.ensures c.args.p.now.cells (own_board c.args.by c.args.p.now.cells c.men-men.result c.occupied-occupied.result c.men-men.ensures c.occupied-occupied.ensures) king

pub returns-else-is_own_king : goal.returns-else-is_own_king
returns-else-is_own_king c =
    let none =
    ap (λ r. is_own_king r (other c.args.by) (cell_at c.args.p.now.cells c.args.at.0)) (sym c.rules-rules.ensures.is)
    ∙ ap (λ side. is_own_king c.rules-rules.result.now side (cell_at c.args.p.now.cells c.args.at.0)) (sym c.other.ensures)
    ∙ ap (is_own_king c.rules-rules.result.now c.other.result) (sym c.cell_on.ensures)
    ∙ sym c.is_own_king.ensures ∙ c.if-is_own_king.false in
    c.piece_attacks.ensures c.args.p.now.cells (own_board c.args.by c.args.p.now.cells c.men-men.result c.occupied-occupied.result c.men-men.ensures c.occupied-occupied.ensures)
    ∙ sym (attacks_by_piece c.args.self.now c.args.p.now.cells c.args.by c.args.at.0 none)
