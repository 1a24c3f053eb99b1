-- Keys of repeats.
use Rattle.std.proofs.Common.{◌≡◌, false, ap}
use Rattle.std.proofs.lemmas.Bool.{false_from_ne_true}
use Rattle.rules_model.specs.declared.board.Repeat.{Repeat}
use Rattle.rules_model.specs.Games.{same_repeat}
use Rattle.rules_model.proofs.EqualLaws.{repeat-decides}
use Rattle.position_key.specs.Key.{key_of}

-- repeats of unequal keys are not one
pub unequal_keys : (a b : Repeat) → (key_of a ≡ key_of b → ⊥) → same_repeat a b ≡ false
unequal_keys a b n = false_from_ne_true (same_repeat a b) (λ e. n (ap key_of ((repeat-decides a b).0 e)))
