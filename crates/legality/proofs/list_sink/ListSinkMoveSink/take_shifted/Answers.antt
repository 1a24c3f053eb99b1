use Rattle.std.proofs.Common.{◌≡◌, ◌==◌, true, not, None, ap, refl, sym, ◌∙◌, subst, arith}
use Rattle.std.proofs.lemmas.Bool.{OnTrue_from, and_parts}
use Rattle.foundation.proofs.AppendedLemmas.{on_err}
use Rattle.rules_model.specs.declared.moves.Move.TheVariants.{Go}
use Rattle.rules_model.specs.declared.moves.Promo.TheVariants.{Stays}
use Rattle.square_set.specs.Members.{has, origin}
use Rattle.piece_moves.specs.InTurn.{go_from, target_of}
use Rattle.piece_moves.proofs.GoesLaws.{goes-one}
use Rattle.piece_moves.proofs.TurnLemmas.{turn-all, turn-more, turn-some}
use Rattle.legality.specs.Choices.{chosen_by}
use Rattle.legality.specs.Keeps.{Keeps}
use Rattle.legality.proofs.ListSinkLaws.{keeper_sink, nothing_kept, others_taken, still_chosen}
use Rattle.legality.proofs.ToldLaws.{chosen_passes, worth-within}
use Rattle.legality.proofs.list_sink.ListSinkMoveSink.take_shifted.Goals as goal

pub loop-to-init : goal.loop-to-init
loop-to-init c = record {
  within = worth-within (go_from (λ to. record { 0 = origin c.args.shift to }) None) c.args.targets c.told_by-told.result.targets c.told_by-told.result.chosen c.worth-left.result (chosen_by c.args.self.now.move_filter) c.told_by-told.ensures.within c.told_by-told.ensures.chosen c.worth-left.ensures;
  taken = others_taken (go_from (λ to. record { 0 = origin c.args.shift to }) None) c.args.targets c.told_by-told.result.targets c.told_by-told.result.chosen c.worth-left.result c.args.self.now (λ to. refl) c.told_by-told.ensures.within c.told_by-told.ensures.chosen c.worth-left.ensures
      (λ k e. let l = c.requires.targets k e in omega (arith, l));
}

pub keep-requires : goal.keep-requires
keep-requires c =
    OnTrue_from c.has.result _
    (λ e. still_chosen _ c.args.self.now c.loop-to.self _ c.loop-to.invariant.taken
    (subst (λ m. chosen_by c.args.self.now.move_filter m ≡ true) (sym (ap (λ o. Go (record { 0 = o }) (record { 0 = c.in-Some.to }) Stays None) c.origin.ensures)) (chosen_passes (go_from (λ to. record { 0 = origin c.args.shift to }) None) c.args.targets c.told_by-told.result.targets c.told_by-told.result.chosen c.worth-left.result (chosen_by c.args.self.now.move_filter) c.told_by-told.ensures.within c.told_by-told.ensures.chosen c.worth-left.ensures c.in-Some.to (sym c.has.ensures ∙ e))))

pub loop-to-preserved : goal.loop-to-preserved
loop-to-preserved c = record {
  within = λ s e. c.loop-to.invariant.within s (and_parts (has c.loop-to.left s) (not (s == c.in-Some.to)) (sym (c.in-Some.ensures.rest s) ∙ e)).0;
  taken = turn-more keeper_sink _ target_of _ _ _ _ _ _ c.in-Some.ensures.some.member c.in-Some.ensures.rest c.loop-to.invariant.taken
      (goes-one (λ to. record { 0 = origin c.args.shift to }) None c.args.targets Keeps _ _ _ _ (c.loop-to.invariant.within _ c.in-Some.ensures.some.member) (ap (λ o. Go (record { 0 = o }) (record { 0 = c.in-Some.to }) Stays None) c.origin.ensures) c.in_ok-keep.ensures.ok);
}

pub returns-in_err-keep-clause-err : goal.returns-in_err-keep-clause-err
returns-in_err-keep-clause-err c =
    on_err _ (turn-some keeper_sink _ target_of _ _ _ _ _ c.in-Some.ensures.some.member c.loop-to.invariant.taken (nothing_kept _ _ _ c.in_err-keep.ensures.err))

pub returns-clause-ok : goal.returns-clause-ok
returns-clause-ok c = turn-all Keeps _ target_of _ _ _ c.in_default.ensures.none c.loop-to.invariant.taken
