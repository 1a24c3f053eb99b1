use Rattle.std.proofs.Common.{sym, ◌∙◌}
use Rattle.legality.specs.Stance.{repeat_in}
use Rattle.stipulation.proofs.BareLaws.{ended-reaches, mate-reaches}
use Rattle.stipulation.proofs.reach_facts.ReachFacts.is_mate.Goals as goal

pub returns-in-Some : goal.returns-in-Some
returns-in-Some c =
    sym (ended-reaches c.args.self.now (repeat_in c.args.board.now) 0 c.in-Some.won (sym c.ended.ensures ∙ c.in-Some.is))

pub returns-in-None : goal.returns-in-None
returns-in-None c = sym (mate-reaches c.args.self.now (repeat_in c.args.board.now) (sym c.ended.ensures ∙ c.in-None.is))
