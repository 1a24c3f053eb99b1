use Rattle.std.proofs.Common.{◌≡◌, ℕ, ◌<◌, true, false}
use Rattle.rules_model.specs.Regions.{in_region}
use Rattle.square_set.specs.Members.{has}
use Rattle.attack_tables.proofs.pawns.promotes_nowhere.Given as goal

abbrev pub invariant-loop-at : goal.invariant-loop-at
invariant-loop-at l = (t : ℕ) → t < l.at → has l.squares t ≡ true → in_region l.rules.promotion l.side t ≡ false
