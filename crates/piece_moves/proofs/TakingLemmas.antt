-- Laws of what a sink takes, by its law.
use Rattle.std.proofs.Common.{◌≡◌, Bool, true, false, List, [], ◌∷◌, ◌++◌, ◌⊎◌, inl, inr, refl, sym}
use Rattle.foundation.proofs.Members.{lists-none, lists-one, lists-join, lists-same, member-append, once-append}
use Rattle.rules_model.specs.declared.moves.Move.{Move}
use Rattle.piece_moves.specs.Taking.{IsChosen, IsSink, TakesAll, TakesSome}

module _ {S : Type 0} {takes stops : S → List Move → S → Type 0} (sink : IsSink takes stops) where
  pub all-none : (P : Move → Type 0) (s : S) → ((m : Move) → P m → ⊥) → TakesAll takes P s s
  all-none P s none = record { moves = []; taken = sink.none s; each = lists-none P none }

  pub not-wanted : (wanted : Bool) (m : Move) (s : S) → wanted ≡ false → TakesAll takes (IsChosen wanted m) s s
  not-wanted wanted m s e = all-none (IsChosen wanted m) s (λ x h. let w = h.0 in cc)

  -- two parts with nothing in common, one after the other
  pub all-join : (P Q R : Move → Type 0) (s t u : S) → TakesAll takes P s t → TakesAll takes Q t u → ((m : Move) → P m → Q m → ⊥) → ((m : Move) → R m → P m ⊎ Q m) → ((m : Move) → P m ⊎ Q m → R m) → TakesAll takes R s u
  all-join P Q R s t u a b apart split join = record {
    moves = a.moves ++ b.moves;
    taken = sink.on s t u a.moves b.moves a.taken b.taken;
    each = lists-join P Q R a.moves b.moves a.each b.each apart split join;
  }

  -- all of one part, and then some of another that has nothing in common with it
  pub some-behind : (P Q R : Move → Type 0) (s t u : S) → TakesAll takes P s t → TakesSome stops Q t u → ((m : Move) → P m → Q m → ⊥) → ((m : Move) → P m → R m) → ((m : Move) → Q m → R m) → TakesSome stops R s u
  some-behind P Q R s t u a b apart left right = record {
    moves = a.moves ++ b.moves;
    taken = sink.full s t u a.moves b.moves a.taken b.taken;
    once = once-append a.moves b.moves a.each.once b.once (λ m h k. apart m (a.each.sound m h) (b.sound m k));
    sound = λ m h. elim (member-append m a.moves b.moves h) as (λ _. R m) [ inl k ↦ left m (a.each.sound m k) | inr k ↦ right m (b.sound m k) ];
  }

module _ {S : Type 0} (takes : S → List Move → S → Type 0) where
  pub all-same : (P Q : Move → Type 0) (s t : S) → TakesAll takes P s t → ((m : Move) → P m → Q m) → ((m : Move) → Q m → P m) → TakesAll takes Q s t
  all-same P Q s t a to from = record { moves = a.moves; taken = a.taken; each = lists-same P Q a.moves a.each to from }

  -- a move that is the only one of its part
  pub all-one : (P : Move → Type 0) (m : Move) (s t : S) → takes s (m ∷ []) t → P m → ((n : Move) → P n → m ≡ n) → TakesAll takes P s t
  all-one P m s t e h only = record { moves = m ∷ []; taken = e; each = lists-one P m h only }

  pub wanted-all : (wanted : Bool) (m : Move) (s t : S) → wanted ≡ true → takes s (m ∷ []) t → TakesAll takes (IsChosen wanted m) s t
  wanted-all wanted m s t e h = all-one (IsChosen wanted m) m s t h (e, refl) (λ x k. k.1)

module _ {S : Type 0} (stops : S → List Move → S → Type 0) where
  pub some-within : (P Q : Move → Type 0) (s t : S) → TakesSome stops P s t → ((m : Move) → P m → Q m) → TakesSome stops Q s t
  some-within P Q s t a to = record { moves = a.moves; taken = a.taken; once = a.once; sound = λ m h. to m (a.sound m h) }

  pub wanted-some : (wanted : Bool) (m : Move) (s t : S) → wanted ≡ true → TakesSome stops (λ x. x ≡ m) s t → TakesSome stops (IsChosen wanted m) s t
  wanted-some wanted m s t e a = some-within (λ x. x ≡ m) (IsChosen wanted m) s t a (λ x h. (e, sym h))
