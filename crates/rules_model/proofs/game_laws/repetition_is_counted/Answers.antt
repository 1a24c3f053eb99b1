use Rattle.rules_model.proofs.ResultLaws.{is_repeated-decides}
use Rattle.rules_model.proofs.game_laws.repetition_is_counted.Goals as goal

pub returns : goal.returns
returns c = is_repeated-decides
