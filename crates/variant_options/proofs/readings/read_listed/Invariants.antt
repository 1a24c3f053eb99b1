use Rattle.std.proofs.Common.{◌≡◌, Some, map, take}
use Rattle.variant_options.specs.Words.{each_said}
use Rattle.variant_options.proofs.readings.read_listed.Given as goal

abbrev pub invariant-loop-word : goal.invariant-loop-word
invariant-loop-word g l = each_said g.T.ReadWord.said (take l.word-index (map (λ word. word.now) l.word-items)) ≡ Some l.found.items
