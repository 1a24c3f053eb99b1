use Rattle.std.proofs.Common.{◌≡◌, Ok, arith, subst, sym}
use Rattle.std.specs.Prelude.{Result}
use Rattle.std.proofs.lemmas.Result.{err_from_is_err_and}
use Rattle.strategy.specs.declared.fault.StrategyFault.{StrategyFault}
use Rattle.strategy.specs.declared.nodes.Strategy.{Strategy}
use Rattle.strategy.specs.declared.reader.Reader.{Reader}
use Rattle.strategy.specs.Reading.{AreSound}
use Rattle.strategy.proofs.SoundLemmas.{none-sound}
use Rattle.game_text.proofs.HeardLemmas.{heard_nothing, heard_so, same_needed}
use Rattle.proof_text.specs.StrategyView.{HasWhy}
use Rattle.proof_text.proofs.StrategyLemmas.{begun_heard, taken_finished, taken_unfinished, taken_why, unread_same}
use Rattle.proof_text.proofs.strategy_lines.read_strategy.Goals as goal

pub take_lines-requires-clause-sound : goal.take_lines-requires-clause-sound
take_lines-requires-clause-sound g c = subst (λ (b : Reader). AreSound c.args.rules.now b.nodes) (sym c.new-reader.ensures) (none-sound c.args.rules.now)

pub returns-in_err-line-clause-heard : goal.returns-in_err-line-clause-heard
returns-in_err-line-clause-heard g c =
    let p = err_from_is_err_and c.from_residual.result c.from_residual.ensures.1 in
    rw (p.1, p.2) (heard_nothing _ _ _ (λ lines. tt))

pub returns-in_err-take_lines-clause-heard : goal.returns-in_err-take_lines-clause-heard
returns-in_err-take_lines-clause-heard g c =
    let p = err_from_is_err_and c.from_residual-in_err-take_lines.result c.from_residual-in_err-take_lines.ensures.1 in
    rw (p.1, p.2) (heard_so _ _ _ _ _ _ (begun_heard c.args.rules.now _ _ c.new-reader.result (λ (r : Result Reader StrategyFault). HasWhy r c.in_err-take_lines.field-0.0) c.new-reader.ensures c.in_err-take_lines.ensures.heard)
    (same_needed _) (λ lines says. taken_why c.args.rules.now lines c.in_err-take_lines.field-0.0 says))

pub returns-in_err-take_lines-clause-cause : goal.returns-in_err-take_lines-clause-cause
returns-in_err-take_lines-clause-cause g c =
    let p = err_from_is_err_and c.from_residual-in_err-take_lines.result c.from_residual-in_err-take_lines.ensures.1 in
    rw (p.1, p.2) (record { later = omega arith; failed = λ unread. c.in_err-take_lines.ensures.cause.failed (unread_same Strategy (Unit {0}) c.in_err-take_lines.field-0.0 unread) })

pub returns-in_err-finish-clause-heard : goal.returns-in_err-finish-clause-heard
returns-in_err-finish-clause-heard g c =
    let p = err_from_is_err_and c.from_residual-in_err-finish.result c.from_residual-in_err-finish.ensures.1 in
    rw (p.1, p.2) (heard_so _ _ _ _ _ _ (begun_heard c.args.rules.now _ _ c.new-reader.result (λ (r : Result Reader StrategyFault). r ≡ Ok c.take_lines.new.reader) c.new-reader.ensures c.in_ok-take_lines.ensures.heard)
    (same_needed _) (λ lines says. taken_unfinished c.args.rules.now lines c.take_lines.new.reader c.in_err-finish.field-0.0 says c.in_err-finish.ensures))

pub returns-clause-heard : goal.returns-clause-heard
returns-clause-heard g c =
    heard_so _ _ _ _ _ _ (begun_heard c.args.rules.now _ _ c.new-reader.result (λ (r : Result Reader StrategyFault). r ≡ Ok c.take_lines.new.reader) c.new-reader.ensures c.in_ok-take_lines.ensures.heard)
    (same_needed _) (λ lines says. taken_finished c.args.rules.now lines c.take_lines.new.reader c.in_ok-finish.field-0 says c.in_ok-finish.ensures)
