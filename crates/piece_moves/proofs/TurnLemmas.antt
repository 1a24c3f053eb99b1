-- Moves are given square by square, until no square of the set is left.
use Rattle.std.proofs.Common.{◌≡◌, ℕ, Bool, true, false, not, ◌&&◌, ◌==◌, ◌⊎◌, inl, inr, List, ap, sym, ◌∙◌, refl}
use Rattle.rules_model.specs.declared.moves.Move.{Move}
use Rattle.square_set.specs.declared.Set.{Set}
use Rattle.square_set.specs.Members.{has, IsWithout}
use Rattle.square_set.proofs.Cases.{by_equal}
use Rattle.piece_moves.specs.InTurn.{At, Outside}
use Rattle.piece_moves.specs.Taking.{IsSink, TakesAll, TakesSome}
use Rattle.piece_moves.proofs.TakingLemmas.{all-none, all-join, all-same, some-behind}

kept : (b : Bool) → (b && not false) ≡ b
kept true = refl
kept false = refl

gone : (b : Bool) → (b && not true) ≡ false
gone true = refl
gone false = refl

module _ {S : Type 0} {takes stops : S → List Move → S → Type 0} (sink : IsSink takes stops) (P : Move → Type 0) (square : Move → ℕ) where
  -- before the first square, of a set that has the squares of all
  pub turn-none : (left : Set) (s : S) → ((m : Move) → P m → has left (square m) ≡ true) → TakesAll takes (Outside P square left) s s
  turn-none left s all = all-none sink (Outside P square left) s (λ m h. let e = all m h.0 in let f = h.1 in cc)

  apart : (left : Set) (k : ℕ) → has left k ≡ true → (m : Move) → Outside P square left m → At P square k m → ⊥
  apart left k member m h at = let e : has left (square m) ≡ true = ap (has left) at.1 ∙ member in let f = h.1 in cc

  split : (left rest : Set) (k : ℕ) → IsWithout left k rest → (m : Move) → Outside P square rest m → Outside P square left m ⊎ At P square k m
  split left rest k without m h =
      by_equal (square m) k (Outside P square left m ⊎ At P square k m)
      (λ e q. inr (h.0, q))
      (λ e q. inl (h.0, sym (kept (has left (square m))) ∙ sym (ap (λ b. has left (square m) && not b) e) ∙ sym (without (square m)) ∙ h.1))

  join : (left rest : Set) (k : ℕ) → IsWithout left k rest → (m : Move) → Outside P square left m ⊎ At P square k m → Outside P square rest m
  join left rest k without m (inl h) = (h.0, without (square m) ∙ ap (λ b. b && not (square m == k)) h.1)
  join left rest k without m (inr h) =
      by_equal (square m) k (Outside P square rest m)
      (λ e q. (h.0, without (square m) ∙ ap (λ b. has left (square m) && not b) e ∙ gone (has left (square m))))
      (λ e q. absurd (q h.1))

  -- after one more
  pub turn-more : (left rest : Set) (k : ℕ) (s t u : S) → has left k ≡ true → IsWithout left k rest → TakesAll takes (Outside P square left) s t → TakesAll takes (At P square k) t u → TakesAll takes (Outside P square rest) s u
  turn-more left rest k s t u member without a b =
      all-join sink (Outside P square left) (At P square k) (Outside P square rest) s t u a b (apart left k member) (split left rest k without) (join left rest k without)

  -- where the sink is full at one
  pub turn-some : (left : Set) (k : ℕ) (s t u : S) → has left k ≡ true → TakesAll takes (Outside P square left) s t → TakesSome stops (At P square k) t u → TakesSome stops P s u
  turn-some left k s t u member a b = some-behind sink (Outside P square left) (At P square k) P s t u a b (apart left k member) (λ m h. h.0) (λ m h. h.0)

module _ {S : Type 0} (takes : S → List Move → S → Type 0) (P : Move → Type 0) (square : Move → ℕ) where
  -- after the last
  pub turn-all : (left : Set) (s t : S) → ((k : ℕ) → has left k ≡ false) → TakesAll takes (Outside P square left) s t → TakesAll takes P s t
  turn-all left s t none a = all-same takes (Outside P square left) P s t a (λ m h. h.0) (λ m h. (h, none (square m)))
