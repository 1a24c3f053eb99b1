use Rattle.std.proofs.Common.{◌≡◌, true, arith}
use Rattle.forced_wins.specs.Wins.{wins}
use Rattle.game_play.specs.Played.{story}
use Rattle.rules_model.specs.Sides.{same_side}
use Rattle.strategy_check.specs.Rows.{kept, root_fits, nodes_verdict}
use Rattle.strategy_check.proofs.RowLemmas.{wins-ok, good-wins}
use Rattle.strategy_check.proofs.first_fault.check.Goals as goal

pub returns-clause-wins : goal.returns-clause-wins
returns-clause-wins c =
    let rules = c.args.game.now.rules in
    let g = story c.args.game.now in
    let a = c.args.attacker in
    let of = c.args.s.now.attacker in
    let s = c.as_slice.result.now in
    let for_it : same_side of a ≡ true = grind (arith, c.is.ensures, c.if-not-is.false) in
    let fits : root_fits rules a s g c.args.n ≡ true = grind (arith, c.fits_root.ensures, c.if-not-fits_root.false) in
    wins-ok (wins rules c.args.n g a ≡ true) (nodes_verdict rules a s g 0 s) c.nodes_verdict.result c.nodes_verdict.ensures
    (λ w. good-wins rules g a c.args.n of s for_it fits w (c.good_strategies_win.ensures rules kept))
