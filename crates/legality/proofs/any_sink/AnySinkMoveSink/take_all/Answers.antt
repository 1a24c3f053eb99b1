use Rattle.std.proofs.Common.{◌==◌, not, refl, sym, ◌∙◌, arith}
use Rattle.std.proofs.lemmas.Bool.{OnTrue_from, and_parts}
use Rattle.foundation.proofs.AppendedLemmas.{on_err}
use Rattle.square_set.specs.Members.{has}
use Rattle.piece_moves.specs.InTurn.{go_from, target_of}
use Rattle.piece_moves.proofs.GoesLaws.{goes-one, goes-some}
use Rattle.piece_moves.proofs.TurnLemmas.{turn-all, turn-more, turn-some}
use Rattle.legality.specs.Choices.{chosen_by}
use Rattle.legality.specs.Seeks.{SeesNone, SeesOne}
use Rattle.legality.proofs.SeekLaws.{others_seen, seeker_sink, still_sought}
use Rattle.legality.proofs.ToldLaws.{chosen_passes, worth-within}
use Rattle.legality.proofs.any_sink.AnySinkMoveSink.take_all.Goals as goal

pub loop-to-init : goal.loop-to-init
loop-to-init c = record {
  within = worth-within (go_from (λ to. c.args.from) c.args.gate) c.args.targets c.told_from-told.result.targets c.told_from-told.result.chosen c.worth-left.result (chosen_by c.args.self.now.move_filter) c.told_from-told.ensures.within c.told_from-told.ensures.chosen c.worth-left.ensures;
  taken = others_seen (go_from (λ to. c.args.from) c.args.gate) c.args.targets c.told_from-told.result.targets c.told_from-told.result.chosen c.worth-left.result c.args.self.now (λ to. refl) c.told_from-told.ensures.within c.told_from-told.ensures.chosen c.worth-left.ensures
      (λ k e. let l = c.requires.targets k e in omega (arith, l));
}

pub see-requires : goal.see-requires
see-requires c =
    OnTrue_from c.has.result _
    (λ e. still_sought _ c.args.self.now c.loop-to.self _ c.loop-to.invariant.taken
    (chosen_passes (go_from (λ to. c.args.from) c.args.gate) c.args.targets c.told_from-told.result.targets c.told_from-told.result.chosen c.worth-left.result (chosen_by c.args.self.now.move_filter) c.told_from-told.ensures.within c.told_from-told.ensures.chosen c.worth-left.ensures c.in-Some.to (sym c.has.ensures ∙ e)))

pub loop-to-preserved : goal.loop-to-preserved
loop-to-preserved c = record {
  within = λ s e. c.loop-to.invariant.within s (and_parts (has c.loop-to.left s) (not (s == c.in-Some.to)) (sym (c.in-Some.ensures.rest s) ∙ e)).0;
  taken = turn-more seeker_sink _ target_of _ _ _ _ _ _ c.in-Some.ensures.some.member c.in-Some.ensures.rest c.loop-to.invariant.taken
      (goes-one (λ to. c.args.from) c.args.gate c.args.targets SeesNone _ _ _ _ (c.loop-to.invariant.within _ c.in-Some.ensures.some.member) refl c.in_ok-see.ensures.ok);
}

pub returns-in_err-see-clause-err : goal.returns-in_err-see-clause-err
returns-in_err-see-clause-err c =
    on_err _ (turn-some seeker_sink _ target_of _ _ _ _ _ c.in-Some.ensures.some.member c.loop-to.invariant.taken (goes-some (λ to. c.args.from) c.args.gate c.args.targets SeesOne _ _ _ _ (c.loop-to.invariant.within _ c.in-Some.ensures.some.member) refl c.in_err-see.ensures.err))

pub returns-clause-ok : goal.returns-clause-ok
returns-clause-ok c = turn-all SeesNone _ target_of _ _ _ c.in_default.ensures.none c.loop-to.invariant.taken
