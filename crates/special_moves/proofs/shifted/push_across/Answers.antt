use Rattle.std.proofs.Common.{inl, inr}
use Rattle.std.proofs.lemmas.Result.{on_ok_weaker, on_err_weaker}
use Rattle.foundation.proofs.AppendedLemmas.{on_err}
use Rattle.piece_moves.proofs.TakingLemmas.{all-join, all-same, some-behind, some-within}
use Rattle.special_moves.proofs.SetLemmas.{across_apart, left_from, left_to, right_from, right_to}
use Rattle.special_moves.proofs.shifted.push_across.Goals as goal

pub returns-in_err-push_by-clause-err : goal.returns-in_err-push_by-clause-err
returns-in_err-push_by-clause-err g c = on_err _ (some-within g.S.MoveSink.stops _ _ _ _ c.in_err-push_by.ensures.err (λ m h. inl (left_from c.args.masks.now c.args.pawns c.args.enemies _ c.and.ensures m h)))

pub returns-clause-ok : goal.returns-clause-ok
returns-clause-ok g c =
    let masks = c.args.masks.now in
    let pawns = c.args.pawns in
    let enemies = c.args.enemies in
    let left = all-same g.S.MoveSink.takes _ _ _ _ c.in_ok-push_by.ensures.ok (left_from masks pawns enemies _ c.and.ensures) (left_to masks pawns enemies _ c.and.ensures) in
    on_ok_weaker c.push_by-2.result
    (λ all.
    let right = all-same g.S.MoveSink.takes _ _ _ _ all (right_from masks pawns enemies _ c.and-2.ensures) (right_to masks pawns enemies _ c.and-2.ensures) in
    all-join g.met.S.MoveSink.law _ _ _ _ _ _ left right (across_apart masks pawns enemies c.requires.shifts.aside_apart) (λ m h. h) (λ m h. h))
    c.push_by-2.ensures.ok

pub returns-clause-err : goal.returns-clause-err
returns-clause-err g c =
    let masks = c.args.masks.now in
    let pawns = c.args.pawns in
    let enemies = c.args.enemies in
    let left = all-same g.S.MoveSink.takes _ _ _ _ c.in_ok-push_by.ensures.ok (left_from masks pawns enemies _ c.and.ensures) (left_to masks pawns enemies _ c.and.ensures) in
    on_err_weaker c.push_by-2.result
    (λ some.
    let right = some-within g.S.MoveSink.stops _ _ _ _ some (right_from masks pawns enemies _ c.and-2.ensures) in
    some-behind g.met.S.MoveSink.law _ _ _ _ _ _ left right (across_apart masks pawns enemies c.requires.shifts.aside_apart) (λ m h. inl h) (λ m h. inr h))
    c.push_by-2.ensures.err
