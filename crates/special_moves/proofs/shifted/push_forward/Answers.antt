use Rattle.std.proofs.Common.{inl, inr}
use Rattle.std.proofs.lemmas.Result.{on_ok_weaker, on_err_weaker}
use Rattle.foundation.proofs.AppendedLemmas.{on_err}
use Rattle.piece_moves.proofs.TakingLemmas.{all-join, all-same, some-behind, some-within}
use Rattle.special_moves.proofs.SetLemmas.{forward_apart, once_from, once_to, twice_from, twice_to}
use Rattle.special_moves.proofs.ShiftLemmas.{origins_are}
use Rattle.special_moves.proofs.shifted.push_forward.Goals as goal

pub returns-in_err-push_by-clause-err : goal.returns-in_err-push_by-clause-err
returns-in_err-push_by-clause-err g c = on_err _ (some-within g.S.MoveSink.stops _ _ _ _ c.in_err-push_by.ensures.err (λ m h. inl (once_from c.args.masks.now c.args.pawns c.args.free _ c.and-once.ensures m h)))

pub returns-clause-ok : goal.returns-clause-ok
returns-clause-ok g c =
    let masks = c.args.masks.now in
    let pawns = c.args.pawns in
    let free = c.args.free in
    let once_is = c.and-once.ensures in
    let once = all-same g.S.MoveSink.takes _ _ _ _ c.in_ok-push_by.ensures.ok (once_from masks pawns free _ once_is) (once_to masks pawns free _ once_is) in
    on_ok_weaker c.push_by-2.result
    (λ all.
    let twice = all-same g.S.MoveSink.takes _ _ _ _ all
    (twice_from masks pawns free _ once_is _ _ _ _ c.twice.ensures.is c.requires.pawns c.and.ensures (origins_are _ _ _ _ c.back.ensures.is c.shifted.ensures) c.and-again.ensures)
    (twice_to masks pawns free _ once_is _ _ _ _ c.twice.ensures.is c.requires.pawns c.and.ensures (origins_are _ _ _ _ c.back.ensures.is c.shifted.ensures) c.and-again.ensures) in
    all-join g.met.S.MoveSink.law _ _ _ _ _ _ once twice (forward_apart masks pawns free _ once_is c.requires.shifts.ahead_some) (λ m h. h) (λ m h. h))
    c.push_by-2.ensures.ok

pub returns-clause-err : goal.returns-clause-err
returns-clause-err g c =
    let masks = c.args.masks.now in
    let pawns = c.args.pawns in
    let free = c.args.free in
    let once_is = c.and-once.ensures in
    let once = all-same g.S.MoveSink.takes _ _ _ _ c.in_ok-push_by.ensures.ok (once_from masks pawns free _ once_is) (once_to masks pawns free _ once_is) in
    on_err_weaker c.push_by-2.result
    (λ some.
    let twice = some-within g.S.MoveSink.stops _ _ _ _ some
    (twice_from masks pawns free _ once_is _ _ _ _ c.twice.ensures.is c.requires.pawns c.and.ensures (origins_are _ _ _ _ c.back.ensures.is c.shifted.ensures) c.and-again.ensures) in
    some-behind g.met.S.MoveSink.law _ _ _ _ _ _ once twice (forward_apart masks pawns free _ once_is c.requires.shifts.ahead_some) (λ m h. inl h) (λ m h. inr h))
    c.push_by-2.ensures.err
