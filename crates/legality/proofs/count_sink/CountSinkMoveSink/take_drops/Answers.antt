use Rattle.std.proofs.Common.{◌-◌, ◌^◌, ◌==◌, not, refl, sym, ◌∙◌}
use Rattle.std.proofs.lemmas.Bool.{and_parts}
use Rattle.square_set.specs.Members.{has}
use Rattle.piece_moves.specs.InTurn.{target_of}
use Rattle.piece_moves.proofs.GoesLaws.{drops-one}
use Rattle.piece_moves.proofs.TurnLemmas.{turn-more}
use Rattle.legality.specs.Choices.{chosen_by}
use Rattle.legality.specs.Sinks.{Counted, counter_is_sink}
use Rattle.legality.proofs.DropLaws.{told_counted}
use Rattle.legality.proofs.count_sink.CountSinkMoveSink.take_drops.Goals as goal

pub loop-to-init : goal.loop-to-init
loop-to-init c = record {
  within = λ s e. (and_parts (has c.args.targets s) (not (has c.told_drops-told.result.targets s)) (sym (c.minus-left.ensures s) ∙ e)).0;
  taken = told_counted c.args.kind c.args.targets c.told_drops-told.result.targets c.told_drops-told.result.chosen c.minus-left.result c.from.result c.args.self.now (record c.args.self.now { count = c.saturating_add-self.result }) c.requires.targets
      c.told_drops-told.ensures.within c.told_drops-told.ensures.chosen c.minus-left.ensures (c.from.ensures ∙ c.count.ensures) refl c.saturating_add-self.ensures;
}

pub loop-to-preserved : goal.loop-to-preserved
loop-to-preserved c = record {
  within = λ s e. c.loop-to.invariant.within s (and_parts (has c.loop-to.left s) (not (s == c.in-Some.to)) (sym (c.in-Some.ensures.rest s) ∙ e)).0;
  taken = turn-more (counter_is_sink (λ counter. counter.move_filter) (λ counter. counter.count) chosen_by (2 ^ 128 - 1)) _ target_of _ _ _ _ _ _ c.in-Some.ensures.some.member c.in-Some.ensures.rest c.loop-to.invariant.taken
      (drops-one c.args.kind c.args.targets (Counted (λ counter. counter.move_filter) (λ counter. counter.count) chosen_by (2 ^ 128 - 1)) _ _ _ _ (c.loop-to.invariant.within _ c.in-Some.ensures.some.member) refl c.in_ok-take.ensures.ok);
}
