use Rattle.std.proofs.Common.{◌≡◌, false}
use Rattle.foundation.specs.Count.{any_below}
use Rattle.rules_model.specs.Castling.{king_passes_attack}
use Rattle.special_moves.proofs.way.is_safe_way.Given as goal

abbrev pub invariant-loop-at : goal.invariant-loop-at
invariant-loop-at l = any_below (king_passes_attack l.tables l.p.cells l.p.side l.castle) l.at ≡ false
