use Rattle.std.proofs.Common.{◌≡◌, ◌∷◌, Ok, refl}
use Rattle.std.specs.Prelude.{Result, codes}
use Rattle.std.proofs.lemmas.Result.{err_from_is_err_and}
use Rattle.io_ports.specs.Lines.{Text}
use Rattle.strategy.specs.declared.fault.StrategyFault.{StrategyFault}
use Rattle.strategy.specs.declared.reader.Reader.{Reader}
use Rattle.game_text.proofs.HeardLemmas.{heard_nothing, heard_so, same_needed}
use Rattle.proof_text.specs.StrategyView.{HasWhy}
use Rattle.proof_text.proofs.StrategyLemmas.{body_heard, body_lost, taken_finished, taken_unfinished, taken_why}
use Rattle.proof_text.proofs.strategy_lines.read_body.Goals as goal

pub returns-in_err-take_line-clause-heard : goal.returns-in_err-take_line-clause-heard
returns-in_err-take_line-clause-heard g c =
    let p = err_from_is_err_and c.from_residual.result c.from_residual.ensures.1 in
    rw (p.1, p.2) (heard_nothing _ _ _ (λ lines. body_lost c.args.rules.now c.new-reader.result _ c.new-reader.ensures refl lines c.in_err-take_line.field-0.0 c.in_err-take_line.ensures.takes.1))

pub returns-in_err-take_lines-clause-heard : goal.returns-in_err-take_lines-clause-heard
returns-in_err-take_lines-clause-heard g c =
    let p = err_from_is_err_and c.from_residual-in_err-take_lines.result c.from_residual-in_err-take_lines.ensures.1 in
    rw (p.1, p.2) (heard_so _ _ _ _ _ _ (body_heard c.args.rules.now c.new-reader.result _ c.new-reader.ensures refl _ _ c.take_line.new.self (λ (r : Result Reader StrategyFault). HasWhy r c.in_err-take_lines.field-0.0) c.in_ok-take_line.ensures.takes c.in_err-take_lines.ensures.heard)
    (same_needed _) (λ lines says. taken_why c.args.rules.now (Text (codes "strategy 1") ∷ lines) c.in_err-take_lines.field-0.0 says))

pub returns-in_err-finish-clause-heard : goal.returns-in_err-finish-clause-heard
returns-in_err-finish-clause-heard g c =
    let p = err_from_is_err_and c.from_residual-in_err-finish.result c.from_residual-in_err-finish.ensures.1 in
    rw (p.1, p.2) (heard_so _ _ _ _ _ _ (body_heard c.args.rules.now c.new-reader.result _ c.new-reader.ensures refl _ _ c.take_line.new.self (λ (r : Result Reader StrategyFault). r ≡ Ok c.take_lines.new.reader) c.in_ok-take_line.ensures.takes c.in_ok-take_lines.ensures.heard)
    (same_needed _) (λ lines says. taken_unfinished c.args.rules.now (Text (codes "strategy 1") ∷ lines) c.take_lines.new.reader c.in_err-finish.field-0.0 says c.in_err-finish.ensures))

pub returns-clause-heard : goal.returns-clause-heard
returns-clause-heard g c =
    heard_so _ _ _ _ _ _ (body_heard c.args.rules.now c.new-reader.result _ c.new-reader.ensures refl _ _ c.take_line.new.self (λ (r : Result Reader StrategyFault). r ≡ Ok c.take_lines.new.reader) c.in_ok-take_line.ensures.takes c.in_ok-take_lines.ensures.heard)
    (same_needed _) (λ lines says. taken_finished c.args.rules.now (Text (codes "strategy 1") ∷ lines) c.take_lines.new.reader c.in_ok-finish.field-0 says c.in_ok-finish.ensures)
