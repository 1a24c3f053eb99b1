use Rattle.std.proofs.Common.{sym, ◌∙◌}
use Rattle.attack_tables.proofs.kind_masks.may_take.Goals as goal

pub returns : goal.returns
returns c = λ small none. c.range_of_kind.ensures c.args.at c.requires.at (sym c.has.ensures ∙ none)
