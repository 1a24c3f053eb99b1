use Rattle.std.proofs.Common.{◌≡◌, false}
use Rattle.foundation.specs.Count.{any_below}
use Rattle.rules_model.specs.Fit.{bad_promotion}
use Rattle.rules_model.specs.Kinds.{promoted_of}
use Rattle.variant_options.specs.Letters.{kind}
use Rattle.variant_rules.proofs.contradictions.chains_promotions.Given as goal

abbrev pub invariant-loop-k : goal.invariant-loop-k
invariant-loop-k l = any_below (λ k. bad_promotion l.rules (kind k) (promoted_of l.rules (kind k))) l.k ≡ false
