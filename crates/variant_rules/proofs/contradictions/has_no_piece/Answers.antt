use Rattle.std.proofs.Common.{not, sym, ap, ◌∙◌}
use Rattle.foundation.proofs.CountLemmas.{any_below-true}
use Rattle.rules_model.specs.Fit.{has_no_piece}
use Rattle.rules_model.specs.Kinds.{has_kind}
use Rattle.variant_options.specs.Letters.{kind}
use Rattle.variant_rules.proofs.contradictions.has_no_piece.Goals as goal

pub returns-then-has_kind : goal.returns-then-has_kind
unfolding has_no_piece
returns-then-has_kind c =
    sym (ap not (any_below-true (λ k. has_kind c.args.rules.now (kind k)) 26 c.loop-k.k c.loop-k-test.true (sym c.has_kind.ensures ∙ c.if-has_kind.true)))
