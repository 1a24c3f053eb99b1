use Rattle.std.proofs.Common.{sym, ◌∙◌}
use Rattle.std.proofs.lemmas.Result.{on_ok_weaker, on_err_weaker}
use Rattle.foundation.proofs.AppendedLemmas.{on_err}
use Rattle.piece_moves.proofs.TakingLemmas.{all-none}
use Rattle.rules_model.specs.Repeats.{repeat_of}
use Rattle.special_moves.proofs.BelowLemmas.{either-all, either-left, either-some}
use Rattle.special_moves.proofs.CastleLemmas.{no-castles, no-rights, wings-apart}
use Rattle.special_moves.proofs.castles.push_castles.Goals as goal

pub returns-then-not-castling_on-clause-ok : goal.returns-then-not-castling_on-clause-ok
returns-then-not-castling_on-clause-ok g c =
    all-none g.met.S.MoveSink.law _ _ (no-castles c.args.tables.now (repeat_of c.args.p.now) (sym c.castling_on.ensures ∙ c.if-not-castling_on.true))

pub returns-then-not-holds_a_right-clause-ok : goal.returns-then-not-holds_a_right-clause-ok
returns-then-not-holds_a_right-clause-ok g c =
    all-none g.met.S.MoveSink.law _ _ (no-rights c.args.tables.now (repeat_of c.args.p.now) (sym c.holds_a_right.ensures ∙ c.if-not-holds_a_right.true))

pub returns-in_err-push_castles_to-clause-err : goal.returns-in_err-push_castles_to-clause-err
returns-in_err-push_castles_to-clause-err g c = on_err _ (either-left _ _ _ _ _ c.in_err-push_castles_to.ensures.err)

pub returns-clause-ok : goal.returns-clause-ok
returns-clause-ok g c =
    on_ok_weaker c.push_castles_to-2.result
    (λ all. either-all g.met.S.MoveSink.law _ _ _ _ _ (wings-apart _ _) c.in_ok-push_castles_to.ensures.ok all) c.push_castles_to-2.ensures.ok

pub returns-clause-err : goal.returns-clause-err
returns-clause-err g c =
    on_err_weaker c.push_castles_to-2.result
    (λ some. either-some g.met.S.MoveSink.law _ _ _ _ _ (wings-apart _ _) c.in_ok-push_castles_to.ensures.ok some) c.push_castles_to-2.ensures.err
