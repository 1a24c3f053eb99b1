use Rattle.std.proofs.Common.{◌≡◌, true, false, ◌&&◌, ap, sym, ◌∙◌}
use Rattle.std.proofs.lemmas.Bool.{and_left, and_right}
use Rattle.std.proofs.Math.Bool.{and-true}
use Rattle.rules_model.specs.Repeats.{repeat_of}
use Rattle.legality.specs.AskedChoices.{filter_of}
use Rattle.legality.specs.Asking.{is_asked}
use Rattle.legality.specs.Choices.{chosen_by}
use Rattle.legality.proofs.FitLaws.{fit_from}
use Rattle.legality.proofs.ListLaws.{unfit-passed}
use Rattle.legality.proofs.asked_sink.AskedSink.chooses.Goals as goal

pub returns-then-not-is_fit_move : goal.returns-then-not-is_fit_move
returns-then-not-is_fit_move c =
    let f = filter_of c.args.self.now in
    let m = c.args.m.now in
    let unfit : chosen_by f.move_filter m ≡ false = unfit-passed _ _ _ m (sym c.is_fit_move.ensures ∙ c.if-not-is_fit_move.true) in
    sym (and_left (chosen_by f.move_filter m) (is_asked f.asked (repeat_of f.move_filter.pin_info.p.now) m) unfit)

pub asks-requires : goal.asks-requires
asks-requires c = fit_from c.args.m.now (sym c.is_fit_move.ensures ∙ c.if-not-is_fit_move.false)

pub returns-then-not-asks : goal.returns-then-not-asks
returns-then-not-asks c =
    let f = filter_of c.args.self.now in
    let m = c.args.m.now in
    sym (and_right (chosen_by f.move_filter m) (is_asked f.asked (repeat_of f.move_filter.pin_info.p.now) m) (sym c.asks.ensures ∙ c.if-not-asks.true))

pub returns : goal.returns
returns c =
    let f = filter_of c.args.self.now in
    let m = c.args.m.now in
    let asked : is_asked f.asked (repeat_of f.move_filter.pin_info.p.now) m ≡ true = sym c.asks.ensures ∙ c.if-not-asks.false in
    c.holds.ensures ∙ sym (ap (λ b. chosen_by f.move_filter m && b) asked ∙ and-true (chosen_by f.move_filter m))
