-- Gating (S-Chess; Fairy-Stockfish's `seirawanGating`): a hand piece comes in on the square that a move leaves.
use Rattle.std.specs.Prelude.{◌%◌, Bool, true, ◌&&◌, ◌||◌, not, ◌==◌, Option, Some, None}
use Rattle.rules_model.specs.declared.board.Kind.{Kind}
use Rattle.rules_model.specs.declared.board.Repeat.{Repeat}
use Rattle.rules_model.specs.declared.board.Square.{Square}
use Rattle.rules_model.specs.declared.moves.Placed.{Placed}
use Rattle.rules_model.specs.declared.rules.Rules.{Rules}
use Rattle.rules_model.specs.Regions.{on_first_rank}
use Rattle.rules_model.specs.Hands.{holds}
use Rattle.rules_model.specs.Gates.{has_gate}
use Rattle.rules_model.specs.Castling.{rook_target}

-- an ordinary move from the square may place a hand piece of the kind there
abbrev pub gates_from : Rules → Repeat → Square → Kind → Bool
gates_from rules r from kind =
    rules.gate_hand && on_first_rank rules r.side from.0 && has_gate r.gates r.side (from.0 % 12)
    && holds r.hands r.side kind

-- a castle places nothing, or a hand piece on the king's or the rook's start where that is empty after the castle
abbrev pub castle_gates : Rules → Repeat → Square → Square → Square → Option Placed → Bool
castle_gates rules r from to rook None = true
castle_gates rules r from to rook (Some placed) =
    rules.gate_hand && holds r.hands r.side placed.kind && ((placed.at.0 == from.0) || (placed.at.0 == rook.0))
    && not (placed.at.0 == to.0) && not (placed.at.0 == rook_target from to rook)
