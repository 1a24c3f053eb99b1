-- What the hands hold after a legal move of a sound position, and how many pieces there are, in every variant that fits.
use Rattle.std.proofs.Common.{◌≡◌, ◌≢◌, ℕ, ◌+◌, ◌-◌, ◌<◌, ◌≤◌, true, ◌⊎◌, inl, inr, List, [], length, sum, ap, sym, ◌∙◌, subst, arith, slice_index}
use Rattle.std.specs.Prelude.{slice_set}
use Rattle.std.proofs.lemmas.Bool.{cases_eq, cases_lt, lt-ltb, ltb-true}
use Rattle.std.proofs.lemmas.List.{get_or-set_other, get_or-set_same, get_or_past, set_past}
use Rattle.std.proofs.lemmas.List.Sums.{sum_by-set}
use Rattle.rules_model.specs.declared.board.Kind.{Kind}
use Rattle.rules_model.specs.declared.board.Side.{Side}
use Rattle.rules_model.specs.declared.board.Side.TheVariants.{White, Black}
use Rattle.rules_model.specs.Sides.{other, side_index}
use Rattle.rules_model.specs.Hands.{hand_of, holds, in_hand, put_down, taken_in, with_hand}
use Rattle.sound_play.proofs.TargetLaws.{side_cases}

-- ---- one hand

pub hand_set : (hand : List ℕ) (i n k : ℕ) → ((k ≡ i) × (slice_index (slice_set hand i n) k ≡ n)) ⊎ (slice_index (slice_set hand i n) k ≡ slice_index hand k)
hand_set hand i n k =
    elim (cases_eq k i) as (λ _. ((k ≡ i) × (slice_index (slice_set hand i n) k ≡ n)) ⊎ (slice_index (slice_set hand i n) k ≡ slice_index hand k)) [
      | inl e ↦ elim (cases_lt i (length hand)) as (λ _. ((k ≡ i) × (slice_index (slice_set hand i n) k ≡ n)) ⊎ (slice_index (slice_set hand i n) k ≡ slice_index hand k)) [
        | inl l ↦ inl (e, subst (λ j. slice_index (slice_set hand i n) j ≡ n) (sym e) (get_or-set_same hand i n 0 l))
        | inr l ↦ inr (ap (λ h. slice_index h k) (set_past hand i n l))
      ]
      | inr e ↦ inr (get_or-set_other hand i k n 0 e)
    ]

-- a count that is replaced
sum_set : (hand : List ℕ) (i n : ℕ) → (sum (slice_set hand i n) + slice_index hand i ≡ sum hand + n) ⊎ ((sum (slice_set hand i n) ≡ sum hand) × (slice_index hand i ≡ 0))
sum_set hand i n =
    elim (cases_lt i (length hand)) as (λ _. (sum (slice_set hand i n) + slice_index hand i ≡ sum hand + n) ⊎ ((sum (slice_set hand i n) ≡ sum hand) × (slice_index hand i ≡ 0))) [
      | inl l ↦ inl (sum_by-set (λ x. x) hand i n 0 l)
      | inr l ↦ inr (ap sum (set_past hand i n l), get_or_past hand i 0 l)
    ]

sum_more : (hand : List ℕ) (i : ℕ) → sum (slice_set hand i (slice_index hand i + 1)) ≤ sum hand + 1
sum_more hand i =
    elim (sum_set hand i (slice_index hand i + 1)) as (λ _. sum (slice_set hand i (slice_index hand i + 1)) ≤ sum hand + 1) [ inl e ↦ omega (arith, e) | inr e ↦ let a = e.0 in omega (arith, a) ]

sum_less : (hand : List ℕ) (i : ℕ) → 0 < slice_index hand i → sum (slice_set hand i (slice_index hand i - 1)) + 1 ≤ sum hand
sum_less hand i h =
    elim (sum_set hand i (slice_index hand i - 1)) as (λ _. sum (slice_set hand i (slice_index hand i - 1)) + 1 ≤ sum hand) [ inl e ↦ omega (arith, e, h) | inr e ↦ let a = e.1 in omega (arith, a, h) ]

-- ---- both hands

other_index : (side : Side) → side_index (other side) ≢ side_index side
other_index White e = cc
other_index Black e = cc

index_below : (side : Side) → side_index side < 2
index_below White = omega arith
index_below Black = omega arith

with_hand-own : (hands : List (List ℕ)) (side : Side) (kind : Kind) (n : ℕ) → length hands ≡ 2 → hand_of (with_hand hands side kind n) side ≡ slice_set (hand_of hands side) kind.0 n
with_hand-own hands side kind n two = let l = index_below side in get_or-set_same hands (side_index side) (slice_set (hand_of hands side) kind.0 n) [] (omega (arith, l, two))

with_hand-other : (hands : List (List ℕ)) (side : Side) (kind : Kind) (n : ℕ) → hand_of (with_hand hands side kind n) (other side) ≡ hand_of hands (other side)
with_hand-other hands side kind n = get_or-set_other hands (side_index side) (side_index (other side)) (slice_set (hand_of hands side) kind.0 n) [] (other_index side)

-- what a side holds after one of its counts is replaced
held_with : (hands : List (List ℕ)) (side : Side) (kind : Kind) (n : ℕ) (s : Side) (k : Kind) → length hands ≡ 2 → ((s ≡ side) × (k.0 ≡ kind.0) × (in_hand (with_hand hands side kind n) s k ≡ n)) ⊎ (in_hand (with_hand hands side kind n) s k ≡ in_hand hands s k)
held_with hands side kind n s k two =
    elim (side_cases s side) as (λ _. ((s ≡ side) × (k.0 ≡ kind.0) × (in_hand (with_hand hands side kind n) s k ≡ n)) ⊎ (in_hand (with_hand hands side kind n) s k ≡ in_hand hands s k)) [
      | inl e ↦
          let own : hand_of (with_hand hands side kind n) s ≡ slice_set (hand_of hands s) kind.0 n = subst (λ t. hand_of (with_hand hands side kind n) t ≡ slice_set (hand_of hands t) kind.0 n) (sym e) (with_hand-own hands side kind n two) in
          elim (hand_set (hand_of hands s) kind.0 n k.0) as (λ _. ((s ≡ side) × (k.0 ≡ kind.0) × (in_hand (with_hand hands side kind n) s k ≡ n)) ⊎ (in_hand (with_hand hands side kind n) s k ≡ in_hand hands s k)) [
            | inl f ↦ inl (e, f.0, ap (λ h. slice_index h k.0) own ∙ f.1)
            | inr f ↦ inr (ap (λ h. slice_index h k.0) own ∙ f)
          ]
      | inr e ↦ inr (ap (λ h. slice_index h k.0) (subst (λ t. hand_of (with_hand hands side kind n) t ≡ hand_of hands t) (sym e) (with_hand-other hands side kind n)))
    ]

same_hand : (hands : List (List ℕ)) (s t : Side) (j k : Kind) → s ≡ t → j.0 ≡ k.0 → in_hand hands s j ≡ in_hand hands t k
same_hand hands s t j k e f = ap (λ u. slice_index (hand_of hands u) j.0) e ∙ ap (λ i. slice_index (hand_of hands t) i) f

-- what is still held after a piece was put down was held
pub put_down-held : (hands : List (List ℕ)) (side : Side) (kind : Kind) (s : Side) (k : Kind) → length hands ≡ 2 → holds (put_down hands side kind) s k ≡ true → holds hands s k ≡ true
put_down-held hands side kind s k two e =
    let l = ltb-true _ _ e in
    elim (held_with hands side kind (in_hand hands side kind - 1) s k two) as (λ _. holds hands s k ≡ true) [
      | inl h ↦ let a = h.2 in let b = same_hand hands s side k kind h.0 h.1 in lt-ltb 0 (in_hand hands s k) (omega (arith, l, a, b))
      | inr h ↦ lt-ltb 0 (in_hand hands s k) (omega (arith, l, h))
    ]

-- what is held after a piece was taken in was held, or is its kind
pub taken_in-held : (hands : List (List ℕ)) (side : Side) (kind : Kind) (s : Side) (k : Kind) → length hands ≡ 2 → holds (taken_in hands side kind) s k ≡ true → (holds hands s k ≡ true) ⊎ (k.0 ≡ kind.0)
taken_in-held hands side kind s k two e =
    let l = ltb-true _ _ e in
    elim (held_with hands side kind (in_hand hands side kind + 1) s k two) as (λ _. (holds hands s k ≡ true) ⊎ (k.0 ≡ kind.0)) [
      | inl h ↦ inr h.1
      | inr h ↦ inl (lt-ltb 0 (in_hand hands s k) (omega (arith, l, h)))
    ]

-- what was held is still held after a piece was taken in
pub held-taken_in : (hands : List (List ℕ)) (side : Side) (kind : Kind) (s : Side) (k : Kind) → length hands ≡ 2 → holds hands s k ≡ true → holds (taken_in hands side kind) s k ≡ true
held-taken_in hands side kind s k two e =
    let l = ltb-true _ _ e in
    elim (held_with hands side kind (in_hand hands side kind + 1) s k two) as (λ _. holds (taken_in hands side kind) s k ≡ true) [
      | inl h ↦ let a = h.2 in lt-ltb 0 _ (omega (arith, a))
      | inr h ↦ lt-ltb 0 _ (omega (arith, l, h))
    ]

-- ---- how many both sides hold

unfoldable pub held_by_both : List (List ℕ) → ℕ
held_by_both hands = sum (hand_of hands White) + sum (hand_of hands Black)

both_with : (hands : List (List ℕ)) (side : Side) (kind : Kind) (n : ℕ) → length hands ≡ 2 → held_by_both (with_hand hands side kind n) + sum (hand_of hands side) ≡ held_by_both hands + sum (slice_set (hand_of hands side) kind.0 n)
unfolding held_by_both
both_with hands White kind n two =
    let a = ap sum (with_hand-own hands White kind n two) in
    let b = ap sum (with_hand-other hands White kind n) in
    omega (arith, a, b)
both_with hands Black kind n two =
    let a = ap sum (with_hand-own hands Black kind n two) in
    let b = ap sum (with_hand-other hands Black kind n) in
    omega (arith, a, b)

pub taken_in-both : (hands : List (List ℕ)) (side : Side) (kind : Kind) → length hands ≡ 2 → held_by_both (taken_in hands side kind) ≤ held_by_both hands + 1
taken_in-both hands side kind two =
    let a = both_with hands side kind (in_hand hands side kind + 1) two in
    let b = sum_more (hand_of hands side) kind.0 in
    omega (arith, a, b)

pub put_down-both : (hands : List (List ℕ)) (side : Side) (kind : Kind) → length hands ≡ 2 → holds hands side kind ≡ true → held_by_both (put_down hands side kind) + 1 ≤ held_by_both hands
put_down-both hands side kind two e =
    let a = both_with hands side kind (in_hand hands side kind - 1) two in
    let b = sum_less (hand_of hands side) kind.0 (ltb-true _ _ e) in
    omega (arith, a, b)
