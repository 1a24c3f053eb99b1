use Rattle.std.proofs.Common.{◌-◌, ◌^◌, ◌==◌, not, None, ap, sym, ◌∙◌}
use Rattle.std.proofs.lemmas.Bool.{and_parts}
use Rattle.rules_model.specs.declared.moves.Move.TheVariants.{Go}
use Rattle.rules_model.specs.declared.moves.Promo.TheVariants.{Stays}
use Rattle.square_set.specs.Members.{has, origin}
use Rattle.piece_moves.specs.InTurn.{target_of}
use Rattle.piece_moves.proofs.GoesLaws.{goes-one}
use Rattle.piece_moves.proofs.TurnLemmas.{turn-more}
use Rattle.legality.specs.Choices.{chosen_by}
use Rattle.legality.specs.Sinks.{Counted, counter_is_sink}
use Rattle.legality.proofs.count_sink.CountSink.take_each.Goals as goal

pub loop-to-preserved : goal.loop-to-preserved
loop-to-preserved c = record {
  within = λ s e. c.loop-to.invariant.within s (and_parts (has c.loop-to.left s) (not (s == c.in-Some.to)) (sym (c.in-Some.ensures.rest s) ∙ e)).0;
  taken = turn-more (counter_is_sink (λ counter. counter.move_filter) (λ counter. counter.count) chosen_by (2 ^ 128 - 1)) _ target_of _ _ _ _ _ _ c.in-Some.ensures.some.member c.in-Some.ensures.rest c.loop-to.invariant.taken
      (goes-one (λ to. record { 0 = origin c.args.shift to }) None c.args.targets (Counted (λ counter. counter.move_filter) (λ counter. counter.count) chosen_by (2 ^ 128 - 1)) _ _ _ _ (c.loop-to.invariant.within _ c.in-Some.ensures.some.member)
      (ap (λ o. Go (record { 0 = o }) (record { 0 = c.in-Some.to }) Stays None) c.origin.ensures) c.in_ok-take.ensures.ok);
}
