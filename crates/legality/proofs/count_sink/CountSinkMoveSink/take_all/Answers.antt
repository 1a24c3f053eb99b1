use Rattle.std.proofs.Common.{◌-◌, ◌^◌, ◌==◌, not, refl, sym, ◌∙◌, arith}
use Rattle.std.proofs.lemmas.Bool.{and_parts}
use Rattle.rules_model.specs.declared.board.Square.{Square}
use Rattle.rules_model.specs.declared.moves.Move.{Move}
use Rattle.square_set.specs.Members.{has}
use Rattle.piece_moves.specs.InTurn.{go_from, target_of}
use Rattle.piece_moves.proofs.GoesLaws.{goes-one}
use Rattle.piece_moves.proofs.TurnLemmas.{turn-more}
use Rattle.legality.specs.Choices.{chosen_by}
use Rattle.legality.specs.Sinks.{Counted, counter_is_sink}
use Rattle.legality.proofs.AllMade.{made-lists, made_below}
use Rattle.legality.proofs.GoLaws.{counted_those}
use Rattle.legality.proofs.count_sink.CountSinkMoveSink.take_all.Goals as goal

pub returns-in-Some-clause-ok : goal.returns-in-Some-clause-ok
returns-in-Some-clause-ok c =
    let make : Square → Move = go_from (λ to. c.args.from) c.args.gate in
    let lists = made-lists make c.args.targets (λ to. refl) (λ s e. let l = c.requires.targets s e in omega (arith, l)) in
    record {
      moves = made_below make c.args.targets 128;
      taken = (refl, λ l. counted_those (chosen_by c.args.self.now.move_filter) make c.args.targets c.in-Some.chosen (2 ^ 128 - 1) c.args.self.now.count c.from.result c.saturating_add-self.result (c.from.ensures ∙ c.count.ensures) c.in-Some.ensures c.saturating_add-self.ensures);
      each = lists;
    }

pub loop-to-preserved : goal.loop-to-preserved
loop-to-preserved c = record {
  within = λ s e. c.loop-to.invariant.within s (and_parts (has c.loop-to.left s) (not (s == c.in-Some-take_first.to)) (sym (c.in-Some-take_first.ensures.rest s) ∙ e)).0;
  taken = turn-more (counter_is_sink (λ counter. counter.move_filter) (λ counter. counter.count) chosen_by (2 ^ 128 - 1)) _ target_of _ _ _ _ _ _ c.in-Some-take_first.ensures.some.member c.in-Some-take_first.ensures.rest c.loop-to.invariant.taken
      (goes-one (λ to. c.args.from) c.args.gate c.args.targets (Counted (λ counter. counter.move_filter) (λ counter. counter.count) chosen_by (2 ^ 128 - 1)) _ _ _ _ (c.loop-to.invariant.within _ c.in-Some-take_first.ensures.some.member) refl c.in_ok-take.ensures.ok);
}
