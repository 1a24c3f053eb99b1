use Rattle.std.proofs.Common.{refl}
use Rattle.variant_model.specs.Builtin.{builtin_text}
use Rattle.variant_rules.proofs.built_in.builtin_bytes.Goals as goal

pub returns : goal.returns
unfolding builtin_text
returns c = refl
