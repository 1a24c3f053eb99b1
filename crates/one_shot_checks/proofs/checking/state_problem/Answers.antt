use Rattle.std.proofs.Common.{◌≡◌, Err, Ok, arith, subst, sym}
use Rattle.std.specs.Prelude.{Result}
use Rattle.std.proofs.lemmas.Result.{err_from_is_err_and}
use Rattle.io_ports.specs.Lines.{Text}
use Rattle.rules_model.specs.declared.rules.Rules.{Rules}
use Rattle.rules_model.specs.Fit.{IsFit}
use Rattle.strategy.specs.declared.fault.StrategyFault.{StrategyFault}
use Rattle.strategy.specs.declared.nodes.Strategy.{Strategy}
use Rattle.strategy.specs.Reading.{AreSound}
use Rattle.proof_text.specs.declared.proof.Proof.{Proof}
use Rattle.one_shot_checks.specs.declared.fault.Fault.{Fault}
use Rattle.game_text.proofs.HeardLemmas.{heard_nothing, heard_so}
use Rattle.proof_text.specs.StrategyView.{HasWhy}
use Rattle.one_shot_checks.specs.CheckView.{States}
use Rattle.one_shot_checks.specs.NoAnswerView.{strategy_no_answer}
use Rattle.one_shot_checks.specs.Checking.{stated}
use Rattle.one_shot_checks.proofs.CheckLemmas.{problem_bad, problem_first, problem_unheard, rules_heard, stated_heard, strategy_bad, strategy_good, strategy_unheard, variants_heard}
use Rattle.one_shot_checks.proofs.checking.state_problem.Goals as goal

pub read_strategy-requires : goal.read_strategy-requires
read_strategy-requires g c = subst (λ (r : Rules). IsFit r) (sym c.rules.ensures) c.prove_played.ensures.fit

pub returns-in_err-variants-clause-heard : goal.returns-in_err-variants-clause-heard
returns-in_err-variants-clause-heard g c =
    let p = err_from_is_err_and c.from_residual.result c.from_residual.ensures.1 in
    rw (p.1, p.2) (heard_nothing _ _ _ (λ lines. tt))

pub returns-in_err-problem-clause-heard : goal.returns-in_err-problem-clause-heard
returns-in_err-problem-clause-heard g c =
    let p = err_from_is_err_and c.from_residual-in_err-problem.result c.from_residual-in_err-problem.ensures.1 in
    rw (p.1, p.2) (heard_so _ _ _ _ _ _ (variants_heard _ _ _ _ (Text c.args.line.now) (Err c.in_err-problem.field-0.0) c.in_ok-variants.ensures c.in_err-problem.ensures.heard) (problem_first _ (Text c.args.line.now))
    (λ lines says. problem_bad _ _ c.in_err-problem.field-0.0 says))

pub returns-in_err-problem-clause-cause : goal.returns-in_err-problem-clause-cause
returns-in_err-problem-clause-cause g c =
    let p = err_from_is_err_and c.from_residual-in_err-problem.result c.from_residual-in_err-problem.ensures.1 in
    rw (p.1, p.2) (record { later = omega arith; failed = λ unheard. c.in_err-problem.ensures.cause.failed (problem_unheard c.in_err-problem.field-0.0 unheard) })

pub returns-in_err-strategy-clause-heard : goal.returns-in_err-strategy-clause-heard
returns-in_err-strategy-clause-heard g c =
    let p = err_from_is_err_and c.from_residual-in_err-strategy.result c.from_residual-in_err-strategy.ensures.1 in
    rw (p.1, p.2) (stated_heard _ _ _ _ (Text c.args.line.now) c.in_ok-problem.problem (λ (r : Result Strategy StrategyFault). HasWhy r c.in_err-strategy.field-0.0)
    (λ (r : Result Proof Fault). States r (Err (strategy_no_answer c.in_err-strategy.field-0.0)))
    (variants_heard _ _ _ _ (Text c.args.line.now) (Ok c.in_ok-problem.problem) c.in_ok-variants.ensures c.in_ok-problem.ensures.heard)
    (rules_heard _ _ _ _ (λ (r : Result Strategy StrategyFault). HasWhy r c.in_err-strategy.field-0.0) c.rules.ensures c.in_err-strategy.ensures.heard)
    (λ r says. strategy_bad c.in_ok-problem.problem r c.in_err-strategy.field-0.0 says))

pub returns-in_err-strategy-clause-cause : goal.returns-in_err-strategy-clause-cause
returns-in_err-strategy-clause-cause g c =
    let p = err_from_is_err_and c.from_residual-in_err-strategy.result c.from_residual-in_err-strategy.ensures.1 in
    rw (p.1, p.2) (record { later = omega arith; failed = λ unheard. let rose = c.in_err-strategy.ensures.cause.failed (strategy_unheard c.in_err-strategy.field-0.0 unheard) in let later = c.in_ok-problem.ensures.cause.later in omega (arith, rose, later) })

pub returns-clause-heard : goal.returns-clause-heard
returns-clause-heard g c =
    stated_heard _ _ _ _ (Text c.args.line.now) c.in_ok-problem.problem (λ (r : Result Strategy StrategyFault). r ≡ Ok c.in_ok-strategy.strategy)
    (λ (r : Result Proof Fault). r ≡ Ok (stated c.in_ok-problem.problem c.in_ok-strategy.strategy))
    (variants_heard _ _ _ _ (Text c.args.line.now) (Ok c.in_ok-problem.problem) c.in_ok-variants.ensures c.in_ok-problem.ensures.heard)
    (rules_heard _ _ _ _ (λ (r : Result Strategy StrategyFault). r ≡ Ok c.in_ok-strategy.strategy) c.rules.ensures c.in_ok-strategy.ensures.heard)
    (λ r says. strategy_good c.in_ok-problem.problem r c.in_ok-strategy.strategy says)

pub returns-clause-sound : goal.returns-clause-sound
returns-clause-sound g c = subst (λ (r : Rules). AreSound r c.in_ok-strategy.strategy.nodes) c.rules.ensures c.in_ok-strategy.ensures.sound
