use Rattle.rules_model.proofs.ResultLaws.{is_run_out-decides}
use Rattle.rules_model.proofs.game_laws.counter_runs_out.Goals as goal

pub returns : goal.returns
returns c = is_run_out-decides
