use Rattle.std.proofs.Common.{sym, ◌∙◌}
use Rattle.std.proofs.lemmas.Bool.{OnTrue_at, OnTrue_from}
use Rattle.legality.proofs.AskedSquaresLaws.{vain_none}
use Rattle.legality.proofs.asked_squares.asks_none_from.Goals as goal

pub returns-in-Some : goal.returns-in-Some
returns-in-Some c =
    OnTrue_from c.goes_in_vain.result _
    (λ e. vain_none _ _ _ _ c.args.from c.occupied-occupied.result c.args.sets.now.enemies (c.occupied-occupied.ensures _ _ _ c.requires.sets) c.requires.sets.enemies
    c.requires.shut (sym c.cell_on.ensures ∙ c.in-Some.is) c.requires.own (OnTrue_at e c.goes_in_vain.ensures))
