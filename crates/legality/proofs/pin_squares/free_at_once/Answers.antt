use Rattle.std.proofs.Common.{sym, ◌∙◌}
use Rattle.rules_model.specs.Repeats.{repeat_of}
use Rattle.legality.proofs.UnpinnedLaws.{none_gating, none_going}
use Rattle.legality.proofs.GoLaws.{gate_at_once, go_at_once}
use Rattle.legality.proofs.pin_squares.free_at_once.Goals as goal

pub returns-then-not-asks_only_safety-clause-goes : goal.returns-then-not-asks_only_safety-clause-goes
returns-then-not-asks_only_safety-clause-goes c = none_going c.args.rules.now (repeat_of c.args.p.now) c.args.barred

pub returns-then-not-asks_only_safety-clause-gates : goal.returns-then-not-asks_only_safety-clause-gates
returns-then-not-asks_only_safety-clause-gates c =
    none_gating c.args.rules.now (repeat_of c.args.p.now) c.args.sets.now.own c.args.sets.now.kings

pub returns-clause-goes : goal.returns-clause-goes
returns-clause-goes c =
    go_at_once _ _ (sym c.asks_only_safety.ensures ∙ c.if-not-asks_only_safety.false) _ _ c.requires.barred _ c.requires.goes

pub returns-clause-gates : goal.returns-clause-gates
returns-clause-gates c =
    gate_at_once _ _ (sym c.asks_only_safety.ensures ∙ c.if-not-asks_only_safety.false) _ _ c.requires.barred _ _ _ c.minus.ensures
    c.requires.gates
