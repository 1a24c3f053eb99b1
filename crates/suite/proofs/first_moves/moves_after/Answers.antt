use Rattle.std.proofs.Common.{◌∙◌, ◌-◌, add-one, ap, arith, Some, option_map, suc, sym}
use Rattle.game_play.specs.Played.{story}
use Rattle.suite.specs.Winning.{side_wins}
use Rattle.suite.proofs.KeyLaws.{first-later, first-zero, within}
use Rattle.suite.proofs.first_moves.moves_after.Goals as goal

pub returns-then-branch-clause-is : goal.returns-then-branch-clause-is
returns-then-branch-clause-is g c =
    let test = side_wins c.args.game.now.rules (story c.args.game.now) c.args.side in
    sym (ap (option_map suc) (first-zero test c.args.n c.requires.some (sym c.in_ok-wins_at_once.ensures.is ∙ c.if-branch.true)))

pub overflow_add-result : goal.overflow_add-result
overflow_add-result g c =
    let test = side_wins c.args.game.now.rules (story c.args.game.now) c.args.side in
    let won = rw (c.wins_at_once.ensures.same, c.in-Some.is) at c.in_ok-won.ensures in
    let le = within test (c.args.n - 1) c.in-Some.won.moves won.least in
    omega (arith, le, c.requires.few)

pub returns-in-Some-clause-is : goal.returns-in-Some-clause-is
returns-in-Some-clause-is g c =
    let test = side_wins c.args.game.now.rules (story c.args.game.now) c.args.side in
    let won = rw (c.wins_at_once.ensures.same, c.in-Some.is) at c.in_ok-won.ensures in
    let later = first-later test c.args.n c.requires.some (sym c.in_ok-wins_at_once.ensures.is ∙ c.if-branch.false) in
    ap Some (add-one c.in-Some.won.moves) ∙ sym (ap (option_map suc) (later ∙ won.least))

pub returns-in-None-clause-is : goal.returns-in-None-clause-is
returns-in-None-clause-is g c =
    let test = side_wins c.args.game.now.rules (story c.args.game.now) c.args.side in
    let none = rw (c.wins_at_once.ensures.same, c.in-None.is) at c.in_ok-won.ensures in
    let later = first-later test c.args.n c.requires.some (sym c.in_ok-wins_at_once.ensures.is ∙ c.if-branch.false) in
    sym (ap (option_map suc) (later ∙ none))
