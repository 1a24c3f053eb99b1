use Rattle.std.proofs.Common.{refl, ◌==◌, not, sym, ◌∙◌}
use Rattle.std.proofs.lemmas.Bool.{and_parts}
use Rattle.foundation.proofs.AppendedLemmas.{on_err}
use Rattle.square_set.specs.Members.{has}
use Rattle.piece_moves.specs.InTurn.{target_of}
use Rattle.piece_moves.proofs.GoesLaws.{drops-one, drops-some}
use Rattle.piece_moves.proofs.TurnLemmas.{turn-all, turn-more, turn-none, turn-some}
use Rattle.piece_moves.proofs.move_sink.MoveSink.take_drops.Goals as goal

pub loop-to-init : goal.loop-to-init
loop-to-init g c = record {
  within = λ s e. e;
  taken = turn-none g.met.Self.MoveSink.law _ target_of _ _ (λ m h. h.1);
}

pub loop-to-preserved : goal.loop-to-preserved
loop-to-preserved g c = record {
  within = λ s e. c.loop-to.invariant.within s (and_parts (has c.loop-to.left s) (not (s == c.in-Some.to)) (sym (c.in-Some.ensures.rest s) ∙ e)).0;
  taken = turn-more g.met.Self.MoveSink.law _ target_of _ _ _ _ _ _ c.in-Some.ensures.some.member c.in-Some.ensures.rest c.loop-to.invariant.taken
      (drops-one _ _ g.Self.MoveSink.takes _ _ _ _ (c.loop-to.invariant.within _ c.in-Some.ensures.some.member) refl c.in_ok-take.ensures.ok);
}

pub returns-in_err-take-clause-err : goal.returns-in_err-take-clause-err
returns-in_err-take-clause-err g c =
    on_err _ (turn-some g.met.Self.MoveSink.law _ target_of _ _ _ _ _ c.in-Some.ensures.some.member c.loop-to.invariant.taken
    (drops-some _ _ g.Self.MoveSink.stops _ _ _ _ (c.loop-to.invariant.within _ c.in-Some.ensures.some.member) refl c.in_err-take.ensures.err))

pub returns-clause-ok : goal.returns-clause-ok
returns-clause-ok g c = turn-all g.Self.MoveSink.takes _ target_of _ _ _ c.in_default.ensures.none c.loop-to.invariant.taken
