use Rattle.std.proofs.Common.{sym, ◌∙◌}
use Rattle.foundation.proofs.CountLemmas.{any_below-true}
use Rattle.rules_model.specs.Fit.{bad_promotion, chains_promotions}
use Rattle.rules_model.specs.Kinds.{promoted_of}
use Rattle.variant_options.specs.Letters.{kind}
use Rattle.variant_rules.proofs.contradictions.chains_promotions.Goals as goal

pub returns-then-is_bad_promotion : goal.returns-then-is_bad_promotion
unfolding chains_promotions
returns-then-is_bad_promotion c =
    sym
    (any_below-true (λ k. bad_promotion c.args.rules.now (kind k) (promoted_of c.args.rules.now (kind k))) 26 c.loop-k.k c.loop-k-test.true
    (sym c.is_bad_promotion.ensures ∙ c.if-is_bad_promotion.true))
