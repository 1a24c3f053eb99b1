-- Every definition of the rules, opened at once.
use Rattle.foundation.specs.Count.{any_below, all_below, first_below, last_below}
use Rattle.rules_model.specs.Squares.{step_to}
use Rattle.rules_model.specs.Reach.{blockers, passes, reaches_over}
use Rattle.rules_model.specs.Movement.{kind_reaches}
use Rattle.rules_model.specs.Attacks.{is_diagonal, attacks_from, stands_between, king_faces, flies_to, attacks, king_attacked_at, king_attacked, pawn_could_take}
use Rattle.rules_model.specs.Castling.{castling_on, rook_on, rook_file, in_the_way, king_passes_attack, way_is_open, castles}
use Rattle.rules_model.specs.Pieces.{piece_goes, piece_moves}
use Rattle.rules_model.specs.Pawns.{pawn_goes, passes_by, pawn_moves}
use Rattle.rules_model.specs.Drops.{stands_on, drops_to}
use Rattle.rules_model.specs.Candidates.{is_piece_move, is_special_move, is_candidate}
use Rattle.rules_model.specs.Next.{cells_after, taken, hands_after, keeps_right, rights_after, gates_after, ep_after, checks_after, next_repeat, resets, next}
use Rattle.rules_model.specs.Ends.{flag_at, has_flag, pieces_of, pieces_of_kind, kind_dies_out, is_extinct, early_end}
use Rattle.rules_model.specs.Legal.{gives_check, is_safe, may_check, roams_to, is_mobile, is_sane, is_allowed}
use Rattle.rules_model.specs.Sizes.{has_sizes}
use Rattle.rules_model.specs.Sound.{sound_at, sound_in_hand, sound_right, sound_gate, is_sound_side, is_sound_repeat, is_sound}

unfoldable pub rules_opened : Unit {0}
unfolding any_below all_below first_below last_below step_to blockers passes reaches_over kind_reaches is_diagonal attacks_from stands_between king_faces flies_to attacks king_attacked_at king_attacked pawn_could_take castling_on rook_on rook_file in_the_way king_passes_attack way_is_open castles piece_goes piece_moves pawn_goes passes_by pawn_moves stands_on drops_to is_piece_move is_special_move is_candidate cells_after taken hands_after keeps_right rights_after gates_after ep_after checks_after next_repeat resets next flag_at has_flag pieces_of pieces_of_kind kind_dies_out is_extinct early_end gives_check is_safe may_check roams_to is_mobile is_sane is_allowed has_sizes sound_at sound_in_hand sound_right sound_gate is_sound_side is_sound_repeat is_sound
rules_opened = tt
