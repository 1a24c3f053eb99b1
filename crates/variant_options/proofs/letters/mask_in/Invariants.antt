use Rattle.std.proofs.Common.{◌≡◌, ℕ, ◌<◌, false, length, get_or}
use Rattle.std.specs.List.{list_any}
use Rattle.rules_model.specs.Kinds.{names}
use Rattle.variant_options.specs.Letters.{kind, letter_of}
use Rattle.variant_options.proofs.letters.mask_in.Given as goal

abbrev pub invariant-loop-k : goal.invariant-loop-k
invariant-loop-k l = (length l.mask ≡ 26) × ((k : ℕ) → k < l.k → get_or l.mask k false ≡ list_any (λ b. names (letter_of b) (kind k)) l.bytes)
