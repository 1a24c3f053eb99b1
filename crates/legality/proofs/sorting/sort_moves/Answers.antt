use Rattle.std.proofs.Common.{rules}
use Rattle.std.specs.Ordering.{eq_by_cmp}
use Rattle.std.proofs.lemmas.Cmp.{eq_by_cmp_equiv}
use Rattle.std.proofs.lemmas.List.Sorted.{answers_always}
use Rattle.std.proofs.lemmas.Map.Keys.{IsDistinct-IsPermutation}
use Rattle.foundation.proofs.Ordered.{once-distinct, strict_from_sort}
use Rattle.rules_model.specs.declared.moves.Move.TheVariants.{Drop}
use Rattle.rules_model.specs.MoveText.{move_cmp}
use Rattle.rules_model.proofs.LegalLaws.{move_cmp-total, move_cmp-same}
use Rattle.move_text.specs.Keys.{key_of}
use Rattle.legality.proofs.TextLaws.{sorted_by_text}
use Rattle.legality.proofs.sorting.sort_moves.Goals as goal

pub returns-clause-sorted : goal.returns-clause-sorted
returns-clause-sorted c =
    strict_from_sort move_cmp-total (Drop (record { 0 = 0 }) (record { 0 = 0 })) _
    (sorted_by_text _ _ c.in_ok-sort_by_cached_key.ensures.permutation c.requires.fit c.requires.texts
    (c.in_ok-sort_by_cached_key.ensures.sorted key_of (answers_always _ _ _ (λ f a r f' k. search rules))))
    (IsDistinct-IsPermutation (eq_by_cmp move_cmp) (eq_by_cmp_equiv move_cmp-total).symm _ _ c.in_ok-sort_by_cached_key.ensures.permutation (once-distinct move_cmp-same _ c.requires.once))
