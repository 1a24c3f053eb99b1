use Rattle.std.proofs.Common.{◌≡◌, drop}
use Rattle.rules_model.specs.declared.board.Side.{Side}
use Rattle.rules_model.specs.declared.rules.Rules.{Rules}
use Rattle.forced_wins.specs.Tables.{first_missing}
use Rattle.forced_wins.specs.Views.{seen_by}
use Rattle.strategy_check.specs.Rows.{kept}
use Rattle.strategy_check.proofs.replies.first_missing.Given as goal

abbrev pub invariant-loop-m : goal.invariant-loop-m
invariant-loop-m l =
    (rules : Rules) (a : Side) → first_missing (seen_by rules a) kept l.v (drop l.m-index l.moves) ≡ first_missing (seen_by rules a) kept l.v l.moves
