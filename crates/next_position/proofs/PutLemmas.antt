-- What a move puts, where it puts one piece at most.
use Rattle.std.proofs.Common.{◌≡◌, false, Option, Some, None, refl, ap}
use Rattle.std.specs.Prelude.{is_some, slice_set, if◌then◌else◌}
use Rattle.rules_model.specs.declared.board.Kind.{Kind}
use Rattle.rules_model.specs.declared.board.Repeat.{Repeat}
use Rattle.rules_model.specs.declared.board.Square.{Square}
use Rattle.rules_model.specs.declared.moves.Move.TheVariants.{Go, Drop}
use Rattle.rules_model.specs.declared.moves.Promo.{Promo}
use Rattle.rules_model.specs.declared.rules.Rules.{Rules}
use Rattle.rules_model.specs.Next.{cells_after, emptied, fresh, gated, promote}
use Rattle.rules_model.specs.Pawns.{behind, passes_by}
use Rattle.rules_model.specs.Squares.{cell_at}
use Rattle.next_position.specs.Puts.{put_on}

-- a piece goes, and nothing is left where it was
pub go-put : (rules : Rules) (r : Repeat) (from to : Square) (promo : Promo) (gate : Option Kind) → is_some gate ≡ false → passes_by rules r from to.0 ≡ false
    → cells_after rules r (Go from to promo gate) ≡ put_on (record { left = Some from; at = to; cell = promote rules (cell_at r.cells from.0) promo }) r.cells
unfolding cells_after
go-put rules r from to promo None none passes =
    ap (λ b. slice_set (slice_set (if b then emptied r.cells (behind rules r.side to) else r.cells) from.0 None) to.0 (promote rules (cell_at r.cells from.0) promo)) passes
go-put rules r from to promo (Some kind) none passes = cc

pub drop-put : (rules : Rules) (r : Repeat) (kind : Kind) (to : Square)
    → cells_after rules r (Drop kind to) ≡ put_on (record { left = None; at = to; cell = Some (fresh r.side kind) }) r.cells
unfolding cells_after
drop-put rules r kind to = refl
