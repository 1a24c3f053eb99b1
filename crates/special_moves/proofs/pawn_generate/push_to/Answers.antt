use Rattle.std.proofs.Common.{sym, ◌∙◌}
use Rattle.std.proofs.lemmas.Result.{on_ok_weaker, on_err_weaker}
use Rattle.foundation.proofs.AppendedLemmas.{on_err}
use Rattle.piece_moves.proofs.TakingLemmas.{all-join, all-same, some-behind, some-within}
use Rattle.special_moves.proofs.PartLemmas.{to-apart, to-split, to-only, to-stays, to-promotes, to-join}
use Rattle.special_moves.proofs.pawn_generate.push_to.Goals as goal

pub returns-in_err-push_if-clause-err : goal.returns-in_err-push_if-clause-err
returns-in_err-push_if-clause-err g c =
    let stays = rw (c.becomes.ensures, c.promotes-may.ensures, c.requires.goes, c.requires.passes, c.go.ensures) at c.in_err-push_if.ensures.err in
    on_err _ (some-within g.S.MoveSink.stops _ _ _ _ stays (to-stays _ _ _ _))

pub returns-then-may-clause-ok : goal.returns-then-may-clause-ok
returns-then-may-clause-ok g c =
    let stays = rw (c.becomes.ensures, c.promotes-may.ensures, c.requires.goes, c.requires.passes, c.go.ensures) at c.in_ok-push_if.ensures.ok in
    let promotes = rw c.requires.goes at (sym c.promotes-may.ensures ∙ c.if-may.true) in
    on_ok_weaker c.push_promotions.result
    (λ more. all-join g.met.S.MoveSink.law _ _ _ _ _ _ stays more (to-apart _ _ _ _) (to-split _ _ _ _) (to-join _ _ _ _ promotes))
    c.push_promotions.ensures.ok

pub returns-then-may-clause-err : goal.returns-then-may-clause-err
returns-then-may-clause-err g c =
    let stays = rw (c.becomes.ensures, c.promotes-may.ensures, c.requires.goes, c.requires.passes, c.go.ensures) at c.in_ok-push_if.ensures.ok in
    let promotes = rw c.requires.goes at (sym c.promotes-may.ensures ∙ c.if-may.true) in
    on_err_weaker c.push_promotions.result
    (λ more. some-behind g.met.S.MoveSink.law _ _ _ _ _ _ stays more (to-apart _ _ _ _) (to-stays _ _ _ _) (to-promotes _ _ _ _ promotes))
    c.push_promotions.ensures.err

pub returns-else-may-clause-ok : goal.returns-else-may-clause-ok
returns-else-may-clause-ok g c =
    let stays = rw (c.becomes.ensures, c.promotes-may.ensures, c.requires.goes, c.requires.passes, c.go.ensures) at c.in_ok-push_if.ensures.ok in
    let stays_only = rw c.requires.goes at (sym c.promotes-may.ensures ∙ c.if-may.false) in
    all-same g.S.MoveSink.takes _ _ _ _ stays (to-stays _ _ _ _) (to-only _ _ _ _ stays_only)
