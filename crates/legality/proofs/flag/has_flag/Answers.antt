use Rattle.std.proofs.Common.{ap, sym, ◌∙◌}
use Rattle.rules_model.specs.declared.rules.Rules.{Rules}
use Rattle.legality.proofs.FlagLaws.{flag_none}
use Rattle.legality.proofs.flag.has_flag.Goals as goal

pub returns-in-None : goal.returns-in-None
returns-in-None c = sym (flag_none _ _ _ (ap (λ (rules : Rules). rules.flag_kind) (sym c.rules-rules.ensures.is) ∙ c.in-None.is))
