use Rattle.std.proofs.Common.{arith}
use Rattle.foundation.proofs.AppendedLemmas.{on_err}
use Rattle.piece_moves.proofs.TakingLemmas.{all-none, all-join, some-behind}
use Rattle.special_moves.proofs.PartLemmas.{promotions-none, promotions-apart, promotions-split, promotions-join, promotions-grow, promotions-gain}
use Rattle.special_moves.proofs.pawn_generate.push_promotions.Goals as goal

pub loop-k-init : goal.loop-k-init
loop-k-init g c = all-none g.met.S.MoveSink.law _ _ (promotions-none _ _ _)

pub loop-k-preserved : goal.loop-k-preserved
loop-k-preserved g c =
    let one = rw (c.masks.ensures, c.go.ensures) at c.in_ok-push_if.ensures.ok in
    all-join g.met.S.MoveSink.law _ _ _ _ _ _ c.loop-k.invariant one (promotions-apart _ _ _ _) (promotions-split _ _ _ _) (promotions-join _ _ _ _)

pub returns-in_err-push_if-clause-err : goal.returns-in_err-push_if-clause-err
returns-in_err-push_if-clause-err g c =
    let one = rw (c.masks.ensures, c.go.ensures) at c.in_err-push_if.ensures.err in
    on_err _
    (some-behind g.met.S.MoveSink.law _ _ _ _ _ _ c.loop-k.invariant one (promotions-apart _ _ _ _) (promotions-grow _ _ _ _ 26 (omega arith)) (promotions-gain _ _ _ _ 26 (omega arith)))
