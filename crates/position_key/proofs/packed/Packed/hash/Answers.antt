use Rattle.std.proofs.Common.{ap, ◌∙◌}
use Rattle.position_key.specs.Key.{key_of}
use Rattle.position_key.proofs.PackedLemmas.{hash-is}
use Rattle.position_key.proofs.packed.Packed.hash.Goals as goal

pub returns : goal.returns
returns c = hash-is _ _ _ _ c.self.invariant ∙ ap key_of c.self.view_is
