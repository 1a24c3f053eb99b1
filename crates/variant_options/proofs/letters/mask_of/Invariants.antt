use Rattle.std.proofs.Common.{◌≡◌, ℕ, ◌<◌, false, length, get_or}
use Rattle.rules_model.specs.Kinds.{names}
use Rattle.variant_options.specs.Letters.{kind}
use Rattle.variant_options.proofs.letters.mask_of.Given as goal

abbrev pub invariant-loop-k : goal.invariant-loop-k
invariant-loop-k l = (length l.mask ≡ 26) × ((k : ℕ) → k < l.k → get_or l.mask k false ≡ names l.named (kind k))
