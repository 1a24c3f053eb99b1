use Rattle.std.proofs.Common.{◌≡◌, ◌<◌, ℕ, true, false, is_some, not, ap, sym, ◌∙◌, subst}
use Rattle.std.proofs.lemmas.Bool.{and_parts, not-true}
use Rattle.rules_model.specs.Attacks.{is_own}
use Rattle.rules_model.specs.Castling.{rook_to_file}
use Rattle.rules_model.specs.Kinds.{masks}
use Rattle.rules_model.specs.Regions.{castling_square}
use Rattle.rules_model.specs.Repeats.{repeat_of}
use Rattle.rules_model.specs.Squares.{cell_at}
use Rattle.attack_tables.proofs.AlikeLaws.{known}
use Rattle.special_moves.proofs.BlockLaws.{blocked}
use Rattle.special_moves.proofs.castles.is_blocked.Goals as goal

pub returns : goal.returns
returns c =
    known c.is_no_rook.result (λ e.
    let rules = c.args.rules.now in
    let cells = c.args.p.now.cells in
    let side = c.args.p.now.side in
    let square : c.castling_square-at.result.0 ≡ castling_square rules side (rook_to_file rules c.args.wing) =
    c.castling_square-at.ensures.is ∙ ap (castling_square rules side) c.rook_to_file-file.ensures.is in
    let own = is_own side (masks rules.castle_rooks) (cell_at cells c.castling_square-at.result.0) in
    let is = rw c.cell_on.ensures at c.is_no_rook.ensures in
    let both = and_parts (is_some (cell_at cells c.castling_square-at.result.0)) (not own) (sym is ∙ e) in
    let Small : ℕ → Type 0 = λ s. s < 120 in
    let Stands : ℕ → Type 0 = λ s. is_some (cell_at cells s) ≡ true in
    let Another : ℕ → Type 0 = λ s. is_own side (masks rules.castle_rooks) (cell_at cells s) ≡ false in
    blocked rules (repeat_of c.args.p.now) c.args.wing
    (λ f. c.if-file-rules.false (c.rook_to_file-file.ensures.is ∙ f))
    (subst Small square c.castling_square-at.ensures.on_board)
    (subst Stands square both.0)
    (subst Another square (not-true own both.1)))
