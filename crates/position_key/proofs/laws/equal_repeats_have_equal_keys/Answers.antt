use Rattle.std.proofs.Common.{ap}
use Rattle.rules_model.proofs.EqualLaws.{repeat-decides}
use Rattle.position_key.specs.Key.{key_of}
use Rattle.position_key.proofs.laws.equal_repeats_have_equal_keys.Goals as goal

pub returns : goal.returns
returns c = λ a b e. ap key_of ((repeat-decides a b).0 e)
