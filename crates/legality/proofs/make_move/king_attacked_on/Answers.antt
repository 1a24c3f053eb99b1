use Rattle.legality.proofs.PinLaws.{board_by, holds_men, itself_held}
use Rattle.legality.proofs.make_move.king_attacked_on.Goals as goal

pub king_attacked_by-requires : goal.king_attacked_by-requires
king_attacked_by-requires c =
    let on_board = c.sets_are_on_board.ensures _ _ _ _ c.prove_board_size.ensures c.requires in
    record { kings = on_board.kings; men = holds_men _ _ _ _ _ c.requires (itself_held _ _) }

pub returns : goal.returns
returns c =
    let by = board_by _ _ _ _ _ c.requires (itself_held _ _) c.occupied-occupied.result (c.occupied-occupied.ensures _ _ _ c.requires) in
    c.king_attacked_by.ensures _ by c.requires.kings
