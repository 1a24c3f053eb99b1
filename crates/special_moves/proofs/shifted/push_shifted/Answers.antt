use Rattle.std.proofs.Common.{not, sym, ◌∙◌}
use Rattle.std.proofs.lemmas.Bool.{and_parts}
use Rattle.foundation.proofs.AppendedLemmas.{on_err}
use Rattle.rules_model.specs.Repeats.{repeat_of}
use Rattle.square_set.specs.Members.{has}
use Rattle.piece_moves.proofs.TakingLemmas.{all-join, some-behind, some-within}
use Rattle.special_moves.proofs.PartLemmas.{from_pawn}
use Rattle.special_moves.proofs.SetLemmas.{free_small}
use Rattle.special_moves.proofs.ShiftedLaws.{across_theirs, forward_theirs, given_join, given_split, together, ways_apart}
use Rattle.special_moves.proofs.shifted.push_shifted.Goals as goal

pub push_forward-requires-clause-free : goal.push_forward-requires-clause-free
push_forward-requires-clause-free g c = free_small _ _ (c.free.ensures _ _ _ c.requires.sets)

pub push_across-requires-clause-enemies : goal.push_across-requires-clause-enemies
push_across-requires-clause-enemies g c = (c.sets_are_on_board.ensures _ _ _ _ c.prove_position_sizes.ensures.cells c.requires.sets).enemies

pub returns-in_err-push_forward-clause-err : goal.returns-in_err-push_forward-clause-err
returns-in_err-push_forward-clause-err g c =
    let r = repeat_of c.args.p.now in
    let board = c.sets_are_on_board.ensures _ _ _ _ c.prove_position_sizes.ensures.cells c.requires.sets in
    let owns = c.own_pawns-own.ensures.are _ _ _ c.requires.sets in
    let all = together c.args.tables.now r _ _ _ _ _ _ c.requires.sets board owns c.own_pawns-own.ensures.within c.and.ensures c.passers.ensures c.minus-pawns.ensures c.pawn_masks-masks.ensures _ (c.free.ensures _ _ _ c.requires.sets) in
    on_err _ (some-within g.S.MoveSink.stops _ _ _ _ c.in_err-push_forward.ensures.err (λ m h. (forward_theirs c.args.tables.now r c.requires.fit _ _ _ _ all m h).0))

pub returns-in_err-push_across-clause-err : goal.returns-in_err-push_across-clause-err
returns-in_err-push_across-clause-err g c =
    let rules = c.args.tables.now in
    let r = repeat_of c.args.p.now in
    let board = c.sets_are_on_board.ensures _ _ _ _ c.prove_position_sizes.ensures.cells c.requires.sets in
    let owns = c.own_pawns-own.ensures.are _ _ _ c.requires.sets in
    let all = together rules r _ _ _ _ _ _ c.requires.sets board owns c.own_pawns-own.ensures.within c.and.ensures c.passers.ensures c.minus-pawns.ensures c.pawn_masks-masks.ensures _ (c.free.ensures _ _ _ c.requires.sets) in
    on_err _
    (some-behind g.met.S.MoveSink.law _ _ _ _ _ _ c.in_ok-push_forward.ensures.ok c.in_err-push_across.ensures.err (ways_apart rules r c.requires.fit _ _ _ _ all)
    (λ m h. (forward_theirs rules r c.requires.fit _ _ _ _ all m h).0) (λ m h. (across_theirs rules r c.requires.fit _ _ _ _ all m h).0))

pub returns-clause-ok : goal.returns-clause-ok
returns-clause-ok g c =
    let rules = c.args.tables.now in
    let r = repeat_of c.args.p.now in
    let board = c.sets_are_on_board.ensures _ _ _ _ c.prove_position_sizes.ensures.cells c.requires.sets in
    let owns = c.own_pawns-own.ensures.are _ _ _ c.requires.sets in
    let all = together rules r _ _ _ _ _ _ c.requires.sets board owns c.own_pawns-own.ensures.within c.and.ensures c.passers.ensures c.minus-pawns.ensures c.pawn_masks-masks.ensures _ (c.free.ensures _ _ _ c.requires.sets) in
    let owned = from_pawn rules r _ owns in
    all-join g.met.S.MoveSink.law _ _ _ _ _ _ c.in_ok-push_forward.ensures.ok c.in_ok-push_across.ensures.ok (ways_apart rules r c.requires.fit _ _ _ _ all)
    (given_split rules r c.requires.fit _ _ _ _ all _ _ c.minus.ensures owned) (given_join rules r c.requires.fit _ _ _ _ all _ _ c.minus.ensures owned)

pub returns-clause-on_board : goal.returns-clause-on_board
returns-clause-on_board g c =
    let board = c.sets_are_on_board.ensures _ _ _ _ c.prove_position_sizes.ensures.cells c.requires.sets in
    λ s e. board.own s (c.own_pawns-own.ensures.within s (and_parts (has c.own_pawns-own.result s) (not (has c.minus-pawns.result s)) (sym (c.minus.ensures s) ∙ e)).0)
