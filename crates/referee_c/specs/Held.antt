-- What a handle owns.
use Rattle.std.specs.Prelude.{Option, Some, None}
use base.Fml.{Fml, ftrue}
use base.Stored.{Coded}
use denote.RawPtr.{Ptr}
use Rattle.std.specs.Box.Ownership.{box_owns}
use Rattle.std.specs.Coded.{coded_option}
use Rattle.std.specs.Global.{Global}
use Rattle.std.specs.contracts.impls.GlobalAllocator.TheImpl.{ghosts}
use Rattle.game_play.specs.contracts.game.Game.{the_row}

-- the box of a game, where it has one
abbrev pub held_owns : Global → Ptr → Option the_row.Denot → Fml
held_owns alloc at (Some game) = box_owns (ghosts.dealloc_token alloc) the_row at game
held_owns alloc at None = ftrue

abbrev pub held_coded : Coded (Option the_row.Denot)
held_coded = coded_option the_row.coded
