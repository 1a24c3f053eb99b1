use Rattle.std.proofs.lemmas.Result.{on_ok_weaker, on_err_weaker}
use Rattle.piece_moves.specs.InTurn.{target_of}
use Rattle.piece_moves.proofs.TakingLemmas.{all-none, all-same, some-within}
use Rattle.attack_tables.proofs.AlikeLaws.{holds}
use Rattle.special_moves.proofs.SetLemmas.{by_goes, goes_is_by, target_has_origin}
use Rattle.special_moves.proofs.shifted.push_by.Goals as goal

pub take_shifted-requires-clause-starts : goal.take_shifted-requires-clause-starts
take_shifted-requires-clause-starts g c = target_has_origin _ _ _ _ _ c.shifted.ensures c.and-targets.ensures c.requires.starts c.requires.ends

pub returns-then-is_empty-clause-ok : goal.returns-then-is_empty-clause-ok
returns-then-is_empty-clause-ok g c =
    all-none g.met.S.MoveSink.law _ _
    (λ m h.
    let there = (by_goes _ _ _ _ _ c.shifted.ensures c.and-targets.ensures c.requires.starts c.requires.ends m h).1 in
    let nowhere = holds c.is_empty.result c.if-is_empty.true c.is_empty.ensures.empty (target_of m) in
    cc)

pub returns-clause-ok : goal.returns-clause-ok
returns-clause-ok g c =
    on_ok_weaker c.take_shifted.result
    (λ all. all-same g.S.MoveSink.takes _ _ _ _ all
    (goes_is_by _ _ _ _ _ c.shifted.ensures c.and-targets.ensures c.requires.starts c.requires.ends)
    (by_goes _ _ _ _ _ c.shifted.ensures c.and-targets.ensures c.requires.starts c.requires.ends))
    c.take_shifted.ensures.ok

pub returns-clause-err : goal.returns-clause-err
returns-clause-err g c =
    on_err_weaker c.take_shifted.result
    (λ some. some-within g.S.MoveSink.stops _ _ _ _ some (goes_is_by _ _ _ _ _ c.shifted.ensures c.and-targets.ensures c.requires.starts c.requires.ends))
    c.take_shifted.ensures.err
