use Rattle.std.proofs.Common.{◌==◌, not, sym, ◌∙◌}
use Rattle.std.proofs.lemmas.Bool.{and_parts}
use Rattle.foundation.proofs.AppendedLemmas.{on_err}
use Rattle.square_set.specs.Members.{has}
use Rattle.piece_moves.specs.InTurn.{target_of}
use Rattle.piece_moves.proofs.TurnLemmas.{turn-all, turn-more, turn-none, turn-some}
use Rattle.piece_moves.proofs.PartLemmas.{to_target}
use Rattle.piece_moves.proofs.generate.push_each.Goals as goal

pub loop-to-init : goal.loop-to-init
loop-to-init g c =
    record {
      within = λ s e. e;
      taken = turn-none g.met.S.MoveSink.law _ target_of _ _
          (λ m h. c.requires.mover.goes (target_of m) ∙ to_target _ _ _ _ c.args.mover.piece m c.requires.mover.own h);
    }

pub loop-to-preserved : goal.loop-to-preserved
loop-to-preserved g c = record {
  within = λ s e. c.loop-to.invariant.within s (and_parts (has c.loop-to.left s) (not (s == c.in-Some.to)) (sym (c.in-Some.ensures.rest s) ∙ e)).0;
  taken = turn-more g.met.S.MoveSink.law _ target_of _ _ _ _ _ _ c.in-Some.ensures.some.member c.in-Some.ensures.rest c.loop-to.invariant.taken c.in_ok-push_to.ensures.ok;
}

pub returns-in_err-push_to-clause-err : goal.returns-in_err-push_to-clause-err
returns-in_err-push_to-clause-err g c = on_err _ (turn-some g.met.S.MoveSink.law _ target_of _ _ _ _ _ c.in-Some.ensures.some.member c.loop-to.invariant.taken c.in_err-push_to.ensures.err)

pub returns-clause-ok : goal.returns-clause-ok
returns-clause-ok g c = turn-all g.S.MoveSink.takes _ target_of _ _ _ c.in_default.ensures.none c.loop-to.invariant.taken
