-- Lists of moves in another order, and how they are read.
use Rattle.std.proofs.Common.{◌≡◌, ℕ, zero, suc, ◌<◌, false, List, [], ◌∷◌, length, get_or, slice_get, Some, None, refl, arith}
use Rattle.std.specs.List.{IsDistinct}
use Rattle.std.specs.List.Sorted.{IsPermutation}
use Rattle.std.specs.Ordering.{eq_by_cmp}
use Rattle.std.proofs.lemmas.Cmp.{eq_by_cmp_equiv}
use Rattle.std.proofs.lemmas.List.Sorted.{IsPermutation-sym}
use Rattle.std.proofs.lemmas.Map.Keys.{IsDistinct-IsPermutation, IsDistinct-head, IsDistinct-tail}
use Rattle.foundation.specs.Member.{IsEachOnce, Lists}
use Rattle.foundation.proofs.Members.{member-permutation}
use Rattle.foundation.proofs.Ordered.{once-distinct, all-member}
use Rattle.forced_wins.proofs.Counts.{true_false}
use Rattle.rules_model.specs.declared.moves.Move.{Move}
use Rattle.rules_model.specs.declared.moves.Move.TheVariants.{Go}
use Rattle.rules_model.specs.declared.moves.Promo.TheVariants.{Stays}
use Rattle.rules_model.specs.MoveText.{move_cmp}
use Rattle.rules_model.proofs.LegalLaws.{move_cmp-total, move_cmp-same}

distinct_once : (ms : List Move) → IsDistinct (eq_by_cmp move_cmp) ms → IsEachOnce ms
distinct_once [] d = tt
distinct_once (m ∷ ms) d = (
  λ k. true_false (eq_by_cmp move_cmp m m) ((eq_by_cmp_equiv move_cmp-total).refl m)
      (all-member (λ x. eq_by_cmp move_cmp m x ≡ false) ms (IsDistinct-head (eq_by_cmp move_cmp) m ms d) m k),
  distinct_once ms (IsDistinct-tail (eq_by_cmp move_cmp) m ms d),
)

once_permuted : (ms ns : List Move) → IsPermutation ms ns → IsEachOnce ms → IsEachOnce ns
once_permuted ms ns p once =
    distinct_once ns (IsDistinct-IsPermutation (eq_by_cmp move_cmp) (eq_by_cmp_equiv move_cmp-total).symm ms ns p (once-distinct move_cmp-same ms once))

pub lists-permuted : (P : Move → Type 0) (ms ns : List Move) → IsPermutation ms ns → Lists P ms → Lists P ns
lists-permuted P ms ns p all = record {
  once = once_permuted ms ns p all.once;
  sound = λ m k. all.sound m (member-permutation m ns ms (IsPermutation-sym ms ns p) k);
  complete = λ m h. member-permutation m ms ns p (all.complete m h);
}

-- what an index reads
pub read-at : {X : Type 0} (xs : List X) (k : ℕ) (d : X) → k < length xs → slice_get xs k ≡ Some (get_or xs k d)
read-at [] k d within = absurd (omega arith)
read-at (x ∷ xs) zero d within = refl
read-at (x ∷ xs) (suc k) d within = read-at xs k d (omega arith)

-- the move that stands for one where there is none
abbrev pub no_move : Move
no_move = Go (record { 0 = 0 }) (record { 0 = 0 }) Stays None
