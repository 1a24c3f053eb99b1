use Rattle.std.proofs.Common.{◌≡◌, ℕ, ◌<◌, None, length, get_or}
use Rattle.variant_rules.specs.Letters.{letter_by}
use Rattle.variant_rules.proofs.letters.letters_by.Given as goal

abbrev pub invariant-loop-i : goal.invariant-loop-i
invariant-loop-i l = (length l.letters ≡ 56) × ((k : ℕ) → k < l.i → get_or l.letters k None ≡ letter_by (get_or l.own k None) (get_or l.inherited k None) l.own)
