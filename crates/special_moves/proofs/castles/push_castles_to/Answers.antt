use Rattle.std.proofs.Common.{sym, ◌∙◌}
use Rattle.std.proofs.lemmas.Result.{on_ok_weaker, on_err_weaker}
use Rattle.piece_moves.proofs.TakingLemmas.{all-none, all-same, some-within}
use Rattle.special_moves.proofs.CastleLemmas.{open-is, rook-beside, wing-none, wing-of, wing-some}
use Rattle.special_moves.proofs.castles.push_castles_to.Goals as goal

pub push_castle-requires-clause-apart : goal.push_castle-requires-clause-apart
push_castle-requires-clause-apart g c = rook-beside _ _ _ _ (open-is _ _ _ _ (sym c.open_castle.ensures.is ∙ c.in-Some.is))

pub returns-in-None-clause-ok : goal.returns-in-None-clause-ok
returns-in-None-clause-ok g c = all-none g.met.S.MoveSink.law _ _ (wing-none _ _ _ (sym c.open_castle.ensures.is ∙ c.in-None.is))

pub returns-in-Some-clause-ok : goal.returns-in-Some-clause-ok
returns-in-Some-clause-ok g c =
    let is = sym c.open_castle.ensures.is ∙ c.in-Some.is in
    on_ok_weaker c.push_castle.result (λ all. all-same _ _ _ _ _ all (wing-some _ _ _ _ is) (wing-of _ _ _ _ is)) (rw c.rules.ensures.is at c.push_castle.ensures.ok)

pub returns-in-Some-clause-err : goal.returns-in-Some-clause-err
returns-in-Some-clause-err g c =
    let is = sym c.open_castle.ensures.is ∙ c.in-Some.is in
    on_err_weaker c.push_castle.result (λ some. some-within _ _ _ _ _ some (wing-some _ _ _ _ is)) (rw c.rules.ensures.is at c.push_castle.ensures.err)
