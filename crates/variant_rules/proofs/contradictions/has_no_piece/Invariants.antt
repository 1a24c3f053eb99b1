use Rattle.std.proofs.Common.{◌≡◌, false}
use Rattle.foundation.specs.Count.{any_below}
use Rattle.rules_model.specs.Kinds.{has_kind}
use Rattle.variant_options.specs.Letters.{kind}
use Rattle.variant_rules.proofs.contradictions.has_no_piece.Given as goal

abbrev pub invariant-loop-k : goal.invariant-loop-k
invariant-loop-k l = any_below (λ k. has_kind l.rules (kind k)) l.k ≡ false
