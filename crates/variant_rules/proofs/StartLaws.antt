-- Whether a position is sound does not depend on the start that rules have.
use Rattle.std.proofs.Common.{◌≡◌, refl}
use Rattle.rules_model.specs.declared.board.Position.{Position}
use Rattle.rules_model.specs.declared.rules.Rules.{Rules}
use Rattle.rules_model.specs.Attacks.{attacks_from, king_faces, flies_to, attacks, king_attacked_at, king_attacked, pawn_could_take}
use Rattle.rules_model.specs.Castling.{castling_on, rook_on, rook_file}
use Rattle.rules_model.specs.Movement.{kind_reaches}
use Rattle.rules_model.specs.Sound.{sound_at, sound_in_hand, sound_right, sound_gate, is_sound_side, is_sound_repeat, is_sound}

pub sound_at_any_start : (rules : Rules) (start p : Position) → is_sound (record rules { start = start }) p ≡ is_sound rules p
unfolding attacks_from king_faces flies_to attacks king_attacked_at king_attacked pawn_could_take castling_on rook_on rook_file kind_reaches sound_at sound_in_hand sound_right sound_gate is_sound_side is_sound_repeat is_sound
sound_at_any_start rules start p = refl
