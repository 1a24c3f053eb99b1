use Rattle.std.proofs.Common.{◌≡◌}
use Rattle.variant_rules.specs.Letters.{letters_before}
use Rattle.variant_rules.proofs.letters.all_letters.Given as goal

abbrev pub invariant-loop-place : goal.invariant-loop-place
invariant-loop-place l = l.letters.items ≡ letters_before l.sections l.place
