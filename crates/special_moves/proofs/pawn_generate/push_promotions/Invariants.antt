use Rattle.piece_moves.specs.Taking.{TakesAll}
use Rattle.special_moves.specs.PawnParts.{IsPromotion}
use Rattle.special_moves.proofs.pawn_generate.push_promotions.Given as goal

abbrev pub invariant-loop-k : goal.invariant-loop-k
invariant-loop-k g l = TakesAll g.S.MoveSink.takes (IsPromotion l.kinds l.from l.to l.k) l.initial.out l.out
