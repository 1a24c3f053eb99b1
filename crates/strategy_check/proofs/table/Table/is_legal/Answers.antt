use Rattle.std.proofs.Common.{ap, ◌∙◌}
use Rattle.std.specs.List.{list_any}
use Rattle.std.proofs.lemmas.Bool.Decides.{same_from_decides}
use Rattle.rules_model.specs.declared.rules.Rules.{Rules}
use Rattle.rules_model.specs.Legal.{legal}
use Rattle.rules_model.specs.Moves.{same_move}
use Rattle.rules_model.specs.Repeats.{repeat_of}
use Rattle.strategy_check.proofs.EdgeLemmas.{any-decides}
use Rattle.strategy_check.proofs.table.Table.is_legal.Goals as goal

pub returns-clause-is : goal.returns-clause-is
returns-clause-is c =
    let r = repeat_of c.args.p.now in
    same_from_decides _ _ c.is_legal.ensures.member (any-decides c.args.m.now (legal c.rules.result.now r))
    ∙ ap (λ (rules : Rules). list_any (same_move c.args.m.now) (legal rules r)) c.rules.ensures
