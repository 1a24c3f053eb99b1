use Rattle.std.proofs.Common.{ap, ◌∙◌, arith}
use Rattle.mate_fact.specs.InFrame.{end_in}
use Rattle.pn_search.proofs.Expanded.{end-inner}
use Rattle.pn_search.proofs.expanding.end_at.Goals as goal

pub returns-in_default : goal.returns-in_default
returns-in_default c =
    c.end_of.ensures ∙ ap (end_in c.args.frame.now) c.position.ensures
    ∙ end-inner c.args.frame.now c.args.leaf.now.place c.args.leaf.now.board.position (λ e. let h = c.in_default in omega arith)
