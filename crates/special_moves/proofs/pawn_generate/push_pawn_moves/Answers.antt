use Rattle.std.proofs.Common.{◌==◌, not, ap, sym, ◌∙◌}
use Rattle.std.proofs.lemmas.Bool.{and_parts}
use Rattle.foundation.proofs.AppendedLemmas.{on_err}
use Rattle.square_set.specs.Members.{has}
use Rattle.piece_moves.specs.InTurn.{start_of}
use Rattle.piece_moves.proofs.TakingLemmas.{all-none}
use Rattle.piece_moves.proofs.TurnLemmas.{turn-all, turn-more, turn-some}
use Rattle.special_moves.proofs.PartLemmas.{fit-at, fit-some, pawnless}
use Rattle.special_moves.proofs.pawn_generate.push_pawn_moves.Goals as goal

pub returns-then-is_none-clause-ok : goal.returns-then-is_none-clause-ok
returns-then-is_none-clause-ok g c = rw (sym c.rules-rules.ensures.is) (all-none g.met.S.MoveSink.law _ _ (pawnless _ _ (c.is_none.ensures ∙ ap not c.if-is_none.true)))

pub loop-from-init : goal.loop-from-init
loop-from-init g c = record {
  small = c.in_ok-left.ensures.on_board;
  own = rw (sym c.rules-rules.ensures.is) at c.in_ok-left.ensures.own;
  taken = rw (sym c.rules-rules.ensures.is) at c.in_ok-left.ensures.ok;
}

pub loop-from-preserved : goal.loop-from-preserved
loop-from-preserved g c =
    let small = c.loop-from.invariant.small c.in-Some.from c.in-Some.ensures.some.member in
    let own = c.loop-from.invariant.own c.in-Some.from c.in-Some.ensures.some.member in
    record {
      small = λ s e. c.loop-from.invariant.small s (and_parts (has c.loop-from.left s) (not (s == c.in-Some.from)) (sym (c.in-Some.ensures.rest s) ∙ e)).0;
      own = λ s e. c.loop-from.invariant.own s (and_parts (has c.loop-from.left s) (not (s == c.in-Some.from)) (sym (c.in-Some.ensures.rest s) ∙ e)).0;
      taken = turn-more g.met.S.MoveSink.law _ start_of _ _ _ _ _ _ c.in-Some.ensures.some.member c.in-Some.ensures.rest c.loop-from.invariant.taken
          (fit-at _ _ (record { 0 = c.in-Some.from }) small own g.S.MoveSink.takes _ _ c.in_ok-push_each.ensures.ok);
    }

pub returns-in_err-push_each-clause-err : goal.returns-in_err-push_each-clause-err
returns-in_err-push_each-clause-err g c =
    let small = c.loop-from.invariant.small c.in-Some.from c.in-Some.ensures.some.member in
    let own = c.loop-from.invariant.own c.in-Some.from c.in-Some.ensures.some.member in
    rw (sym c.rules-rules.ensures.is)
    (on_err _ (turn-some g.met.S.MoveSink.law _ start_of _ _ _ _ _ c.in-Some.ensures.some.member c.loop-from.invariant.taken
    (fit-some _ _ (record { 0 = c.in-Some.from }) small own g.S.MoveSink.stops _ _ c.in_err-push_each.ensures.err)))

pub returns-clause-ok : goal.returns-clause-ok
returns-clause-ok g c = rw (sym c.rules-rules.ensures.is) (turn-all g.S.MoveSink.takes _ start_of _ _ _ c.in_default.ensures.none c.loop-from.invariant.taken)
