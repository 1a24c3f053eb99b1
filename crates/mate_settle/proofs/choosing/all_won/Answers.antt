use Rattle.std.proofs.Common.{◌≡◌, not, is_some, ◌∙◌, rules}
use Rattle.mate_settle.proofs.Settled.{moves-of, none-lost}
use Rattle.mate_settle.proofs.choosing.all_won.Goals as goal

pub returns-clause-won : goal.returns-clause-won
returns-clause-won g c =
    let f = c.args.facts.now in
    let ms = c.args.moves.now in
    let lost = c.in_ok-lost.lost in
    let all = moves-of f c.args.board.now ms c.requires.rules c.requires.moves in
    let none : c.is_none.result ≡ not (is_some lost) = search rules in
    none ∙ none-lost f c.args.n c.args.board.now.position ms all lost c.in_ok-lost.ensures.first
