use Rattle.next_position.proofs.RoomLaws.{sound_has_room, sound_holds_rooks}
use Rattle.next_position.proofs.sound_positions_take_moves.Goals as goal

pub returns-clause-room : goal.returns-clause-room
returns-clause-room c = sound_has_room

pub returns-clause-rooks : goal.returns-clause-rooks
returns-clause-rooks c = sound_holds_rooks
