use Rattle.std.proofs.Common.{◌==◌, not, sym, ◌∙◌}
use Rattle.std.proofs.lemmas.Bool.{and_from, and_parts}
use Rattle.foundation.proofs.AppendedLemmas.{on_err}
use Rattle.square_set.specs.Members.{has}
use Rattle.piece_moves.specs.InTurn.{start_of}
use Rattle.piece_moves.proofs.TurnLemmas.{turn-all, turn-more, turn-none, turn-some}
use Rattle.piece_moves.proofs.PartLemmas.{from_piece, set-at, set-some}
use Rattle.piece_moves.proofs.generate.push_moves_from.Goals as goal

pub loop-at-init : goal.loop-at-init
loop-at-init g c =
    let are = c.own_pieces.ensures.are _ _ _ c.requires.sets in
    let board = c.sets_are_on_board.ensures _ _ _ _ c.prove_position_sizes.ensures.cells c.requires.sets in
    record {
      small = λ s e. board.own s (c.own_pieces.ensures.within s (and_parts (has c.own_pieces.result s) (has c.args.from s) (sym (c.and-left.ensures s) ∙ e)).0);
      own = λ s e. sym (are s) ∙ (and_parts (has c.own_pieces.result s) (has c.args.from s) (sym (c.and-left.ensures s) ∙ e)).0;
      from = λ s e. (and_parts (has c.own_pieces.result s) (has c.args.from s) (sym (c.and-left.ensures s) ∙ e)).1;
      taken = turn-none g.met.S.MoveSink.law _ start_of _ _
          (λ m h. c.and-left.ensures (start_of m) ∙ and_from _ _ (from_piece _ _ _ are m h.0) h.1);
    }

pub loop-at-preserved : goal.loop-at-preserved
loop-at-preserved g c =
    let at = c.in-Some.at in
    let member = c.in-Some.ensures.some.member in
    let small = c.loop-at.invariant.small at member in
    record {
      small = λ s e. c.loop-at.invariant.small s (and_parts (has c.loop-at.left s) (not (s == at)) (sym (c.in-Some.ensures.rest s) ∙ e)).0;
      own = λ s e. c.loop-at.invariant.own s (and_parts (has c.loop-at.left s) (not (s == at)) (sym (c.in-Some.ensures.rest s) ∙ e)).0;
      from = λ s e. c.loop-at.invariant.from s (and_parts (has c.loop-at.left s) (not (s == at)) (sym (c.in-Some.ensures.rest s) ∙ e)).0;
      taken = turn-more g.met.S.MoveSink.law _ start_of _ _ _ _ _ _ member c.in-Some.ensures.rest c.loop-at.invariant.taken
          (set-at _ _ (record { 0 = at }) small c.args.from (c.loop-at.invariant.from at member) g.S.MoveSink.takes _ _ c.in_ok-push_own.ensures.ok);
    }

pub returns-in_err-push_own-clause-err : goal.returns-in_err-push_own-clause-err
returns-in_err-push_own-clause-err g c =
    let at = c.in-Some.at in
    let member = c.in-Some.ensures.some.member in
    let small = c.loop-at.invariant.small at member in
    on_err _ (turn-some g.met.S.MoveSink.law _ start_of _ _ _ _ _ member c.loop-at.invariant.taken
    (set-some _ _ (record { 0 = at }) small c.args.from (c.loop-at.invariant.from at member) g.S.MoveSink.stops _ _ c.in_err-push_own.ensures.err))

pub returns-clause-ok : goal.returns-clause-ok
returns-clause-ok g c = turn-all g.S.MoveSink.takes _ start_of _ _ _ c.in_default.ensures.none c.loop-at.invariant.taken
