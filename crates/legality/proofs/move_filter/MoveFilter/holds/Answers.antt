use Rattle.std.proofs.Common.{sym, ◌∙◌}
use Rattle.legality.proofs.FitLaws.{fit_from}
use Rattle.legality.proofs.move_filter.MoveFilter.holds.Goals as goal

pub suits-requires : goal.suits-requires
suits-requires c = fit_from _ (sym c.is_fit_move.ensures ∙ c.if-is_fit_move.true)
