use Rattle.std.proofs.Common.{◌≡◌, false, take}
use Rattle.rules_model.specs.declared.board.Side.{Side}
use Rattle.rules_model.specs.declared.rules.Rules.{Rules}
use Rattle.forced_wins.specs.Tables.{is_doubled}
use Rattle.forced_wins.specs.Views.{seen_by}
use Rattle.strategy_check.specs.Rows.{kept}
use Rattle.strategy_check.proofs.edges.is_doubled.Given as goal

-- those before the place have moves of their own
abbrev pub invariant-loop-i : goal.invariant-loop-i
invariant-loop-i l = (rules : Rules) (a : Side) → is_doubled (seen_by rules a) kept (take l.i l.edges) ≡ false
