use Rattle.std.proofs.Common.{◌≡◌, ◌&&◌, false}
use Rattle.foundation.specs.Count.{any_below}
use Rattle.rules_model.specs.Fit.{is_pawn_or_king}
use Rattle.rules_model.specs.Kinds.{masks}
use Rattle.variant_options.specs.Letters.{kind}
use Rattle.variant_rules.proofs.contradictions.promotes_to_pawn_or_king.Given as goal

abbrev pub invariant-loop-k : goal.invariant-loop-k
invariant-loop-k l = any_below (λ k. masks l.rules.promotion_kinds (kind k) && is_pawn_or_king l.rules (kind k)) l.k ≡ false
