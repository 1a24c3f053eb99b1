use Rattle.std.proofs.Common.{ap, sym, ◌∙◌, subst}
use Rattle.legality.specs.Stance.{Stance}
use Rattle.mate_core.specs.declared.frame.Frame.{Frame}
use Rattle.pn_search.specs.Finds.{IsFound, IsSought}
use Rattle.pn_search.proofs.Sought.{at-root}
use Rattle.pn_search.proofs.finding.find_lent.Goals as goal

pub find_in-requires-clause-sought : goal.find_in-requires-clause-sought
find_in-requires-clause-sought g c = subst (λ (f : Frame). IsSought c.args.game.now f c.args.n) (sym c.frame.ensures) c.requires.sought

pub publish_below-requires-clause-at : goal.publish_below-requires-clause-at
publish_below-requires-clause-at g c =
    let is = c.in_ok-found.ensures in
    at-root c.in_ok-found.found.tree c.new-board.result.position is.grown
    (ap (λ (s : Stance). s.position) c.new-board.ensures ∙ c.position.ensures.is ∙ sym is.root)

pub returns-clause-found : goal.returns-clause-found
returns-clause-found g c = subst (λ (f : Frame). IsFound c.args.game.now f c.args.n c.in_ok-found.found.won c.in_ok-found.found.tree) c.frame.ensures c.in_ok-found.ensures

pub publish_below-requires-clause-frame : goal.publish_below-requires-clause-frame
publish_below-requires-clause-frame g c = c.in_ok-found.ensures.frame ∙ c.frame.ensures

pub publish_below-requires-clause-rules : goal.publish_below-requires-clause-rules
publish_below-requires-clause-rules g c =
    ap (λ (s : Stance). s.rules) c.new-board.ensures ∙ c.tables.ensures
    ∙ sym (ap (λ (f : Frame). f.rules) (c.in_ok-found.ensures.frame ∙ c.frame.ensures) ∙ c.requires.sought.frame.rules)
