use Rattle.std.proofs.Common.{◌&&◌, sym, ◌∙◌}
use Rattle.std.proofs.lemmas.Bool.{and_from}
use Rattle.foundation.proofs.CountLemmas.{any_below-true}
use Rattle.rules_model.specs.Fit.{promotes_to_pawn_or_king, is_pawn_or_king}
use Rattle.rules_model.specs.Kinds.{masks}
use Rattle.variant_options.specs.Letters.{kind}
use Rattle.variant_rules.proofs.contradictions.promotes_to_pawn_or_king.Goals as goal

pub returns-then-is_pawn_or_king : goal.returns-then-is_pawn_or_king
unfolding promotes_to_pawn_or_king
returns-then-is_pawn_or_king c =
    sym
    (any_below-true (λ k. masks c.args.rules.now.promotion_kinds (kind k) && is_pawn_or_king c.args.rules.now (kind k)) 26 c.loop-k.k c.loop-k-test.true
    (and_from _ _ (sym c.masks.ensures ∙ c.if-masks.true) (sym c.is_pawn_or_king.ensures ∙ c.if-is_pawn_or_king.true)))
