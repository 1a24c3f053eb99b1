use Rattle.std.proofs.Common.{◌≡◌, min, take}
use Rattle.foundation.specs.Numbers.{value_of}
use Rattle.uci_lines.proofs.numbers.value_to_limit.Given as goal

abbrev pub invariant-loop-digit : goal.invariant-loop-digit
invariant-loop-digit l = l.value ≡ min 18446744073709551616 (value_of (take l.digit-index l.digits))
