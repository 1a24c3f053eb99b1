use Rattle.std.proofs.Common.{◌∙◌, rules}
use Rattle.stipulation.proofs.BareLaws.{ended-is}
use Rattle.stipulation.proofs.reach_facts.ReachFacts.ended.Goals as goal

pub returns : goal.returns
returns c =
    c.mated_by.ensures ∙ ended-is c.args.self.now c.args.board.now c.requires.rules c.args.own c.other-winner.result (search rules) c.requires.own
