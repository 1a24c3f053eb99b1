use Rattle.std.proofs.Common.{◌≡◌, ℕ, ◌<◌, false}
use Rattle.rules_model.specs.Kinds.{names}
use Rattle.variant_model.specs.PieceRules.{piece_row}
use Rattle.variant_rules.specs.Said.{resolved_at}
use Rattle.variant_rules.proofs.kinds.holder.Given as goal

abbrev pub invariant-loop-place : goal.invariant-loop-place
invariant-loop-place l = (k : ℕ) → k < l.place → names ((resolved_at l.section).letter (piece_row k).key) l.kind ≡ false
