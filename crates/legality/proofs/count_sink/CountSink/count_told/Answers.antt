use Rattle.std.proofs.Common.{◌-◌, ◌^◌, None, refl, ◌∙◌, arith}
use Rattle.rules_model.specs.declared.board.Square.{Square}
use Rattle.rules_model.specs.declared.moves.Move.{Move}
use Rattle.square_set.specs.Members.{origin}
use Rattle.piece_moves.specs.InTurn.{go_from}
use Rattle.legality.specs.Choices.{chosen_by}
use Rattle.legality.proofs.AllMade.{made-lists, made_below}
use Rattle.legality.proofs.GoLaws.{counted_those}
use Rattle.legality.proofs.count_sink.CountSink.count_told.Goals as goal

pub returns : goal.returns
returns c =
    let make : Square → Move = go_from (λ to. record { 0 = origin c.args.shift to }) None in
    let told = c.args.told in
    record {
      moves = made_below make told.targets 128;
      taken = (refl, λ l. counted_those (chosen_by c.args.self.now.move_filter) make told.targets told.chosen (2 ^ 128 - 1) c.args.self.now.count c.from.result c.saturating_add-self.result (c.from.ensures ∙ c.count.ensures) c.requires.chosen c.saturating_add-self.ensures);
      each = made-lists make told.targets (λ to. refl) (λ s e. let l = c.requires.targets s e in omega (arith, l));
    }
