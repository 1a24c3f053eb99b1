use Rattle.std.proofs.Common.{ap, sym, ◌∙◌, subst}
use Rattle.rules_model.specs.declared.rules.Rules.{Rules}
use Rattle.rules_model.specs.Games.{result}
use Rattle.game_play.specs.Played.{story}
use Rattle.pn_search.specs.Finds.{IsFound}
use Rattle.pn_search.specs.Trees.{end_at}
use Rattle.pn_search.proofs.Sought.{sought-ongoing, found-is}
use Rattle.pn_search.proofs.finding.find_in.Goals as goal

pub new-requires-clause-ongoing : goal.new-requires-clause-ongoing
new-requires-clause-ongoing c =
    let f = c.args.frame.now in
    let s = story c.args.game.now in
    ap (end_at f 0) c.position.ensures.is
    ∙ sought-ongoing f s (ap (λ (x : Rules). result x s) c.requires.sought.frame.rules ∙ c.requires.sought.ongoing)

pub returns : goal.returns
returns c =
    subst (λ b. IsFound c.args.game.now c.args.frame.now c.args.n b c.grow_out.new.tree) (sym c.is_won.ensures)
    (found-is c.args.game.now c.args.frame.now c.args.n c.grow_out.new.tree c.requires.sought
    (c.in_ok-grow_out.ensures.frame ∙ c.in_ok-tree.ensures.frame)
    (c.in_ok-grow_out.ensures.root ∙ c.in_ok-tree.ensures.root ∙ c.position.ensures.is)
    (c.in_ok-grow_out.ensures.moves ∙ c.in_ok-tree.ensures.moves)
    c.prove_grown.ensures.grown c.prove_grown.ensures.decides c.in_ok-grow_out.ensures.settled)
