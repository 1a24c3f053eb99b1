-- Moves that are sorted by their keys are in the order of their texts.
use Rattle.std.proofs.Common.{◌≡◌, ◌+◌, nat_le, true, false, List, get_or, refl, sym, ap, ◌∙◌, subst, arith}
use Rattle.std.specs.Ordering.{is_lt, nat_cmp, ordering_reverse, ordering_then}
use Rattle.std.specs.Cmp.Lexicographic.{slice_cmp}
use Rattle.std.specs.FinSet.{slice_cmp-IsAntisymmetric, nat_cmp-IsAntisymmetric}
use Rattle.std.specs.List.Sorted.{IsPermutation, IsSortedBy, IsSortedByKey}
use Rattle.std.specs.declared.cmp.Ordering.{Ordering}
use Rattle.std.specs.declared.cmp.Ordering.TheVariants.{Less, Equal, Greater}
use Rattle.std.proofs.lemmas.Bool.{and_parts}
use Rattle.std.proofs.lemmas.Cmp.{nat_list_cmp_total}
use Rattle.std.proofs.lemmas.List.Sorted.{IsPermutation-sym}
use Rattle.foundation.specs.Member.{Member, Lists}
use Rattle.foundation.proofs.Members.{member-permutation}
use Rattle.rules_model.specs.declared.board.Position.{Position}
use Rattle.rules_model.specs.declared.moves.Move.{Move}
use Rattle.rules_model.specs.declared.rules.Rules.{Rules}
use Rattle.rules_model.specs.Legal.{legal}
use Rattle.rules_model.specs.Moves.{IsFitMove}
use Rattle.rules_model.specs.MoveText.{move_cmp, order_parts, text_of}
use Rattle.rules_model.specs.Ready.{IsReady}
use Rattle.rules_model.specs.Repeats.{repeat_of}
use Rattle.rules_model.specs.Sound.{is_sound, is_sound_repeat}
use Rattle.rules_model.proofs.LegalLaws.{legal-member}
use Rattle.rules_model.proofs.TextLaws.{legal_texts_differ}
use Rattle.move_text.specs.Keys.{key_of}
use Rattle.move_text.proofs.KeyLaws.{keys_ordered}
use Rattle.legality.specs.Texts.{AreFit, TextsDiffer}
use Rattle.legality.proofs.MemberLaws.{get_or-member}

-- ---- what is not less by its key

tied_itself : (r : Ordering) → r ≡ ordering_reverse r → is_lt r ≡ false
tied_itself Less e = cc
tied_itself Equal e = refl
tied_itself Greater e = refl

by_parts : (x y : Move) (r : Ordering) → slice_cmp nat_cmp (text_of x) (text_of y) ≡ r → is_lt r ≡ false → (text_of x ≡ text_of y → x ≡ y) → is_lt (ordering_then r (slice_cmp nat_cmp (order_parts x) (order_parts y))) ≡ false
by_parts x y Less e l same = cc
by_parts x y Equal e l same =
    let one = same (slice_cmp-IsAntisymmetric nat_cmp-IsAntisymmetric (text_of x) (text_of y) e) in
    subst (λ (z : Move). is_lt (slice_cmp nat_cmp (order_parts x) (order_parts z)) ≡ false) one
    (tied_itself (slice_cmp nat_cmp (order_parts x) (order_parts x)) (nat_list_cmp_total.antisymm (order_parts x) (order_parts x)))
by_parts x y Greater e l same = refl

not_less : (x y : Move) → IsFitMove x → IsFitMove y → (text_of x ≡ text_of y → x ≡ y) → is_lt (nat_cmp (key_of x) (key_of y)) ≡ false → is_lt (move_cmp x y) ≡ false
unfolding move_cmp
not_less x y h k same l =
    by_parts x y (slice_cmp nat_cmp (text_of x) (text_of y)) refl (sym (ap is_lt (keys_ordered x y h k)) ∙ l) same

-- ---- lists

module _ (xs ys : List Move) (h : IsPermutation xs ys) where
  from_sorted : (m : Move) → Member m ys → Member m xs
  from_sorted m k = member-permutation m ys xs (IsPermutation-sym xs ys h) k

  pub sorted_by_text : AreFit xs → TextsDiffer xs → IsSortedByKey key_of nat_cmp ys → IsSortedBy (λ x y. is_lt (move_cmp x y)) ys
  sorted_by_text fit differ s k d l m =
      let now = get_or ys k d in
      let next = get_or ys (k + 1) d in
      let here = from_sorted now (get_or-member ys k d (omega (arith, m))) in
      let there = from_sorted next (get_or-member ys (k + 1) d m) in
      not_less next now (fit next there) (fit now here) (differ next now there here) (s k d l m)

-- ---- the legal moves

module _ (rules made : Rules) (p : Position) (ready : IsReady rules made p) (xs : List Move) (listed : Lists (λ m. Member m (legal rules (repeat_of p))) xs) where
  pub legal_fit : AreFit xs
  legal_fit m h = (legal-member rules (repeat_of p) m (listed.sound m h)).0

  sound_repeat : is_sound_repeat rules (repeat_of p) ≡ true
  unfolding is_sound
  sound_repeat =
      let a = and_parts _ (nat_le p.number 9999) ready.sound in
      let b = and_parts _ (nat_le 1 p.number) a.0 in
      (and_parts (is_sound_repeat rules (repeat_of p)) (nat_le p.counter 9999) b.0).0

  pub legal_differ : TextsDiffer xs
  legal_differ x y h k e = legal_texts_differ rules (repeat_of p) x y ready.fit sound_repeat (listed.sound x h) (listed.sound y k) e
