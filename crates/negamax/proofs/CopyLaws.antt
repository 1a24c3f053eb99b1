-- Moves that are listed, and candidates that are made of them.
use Rattle.std.proofs.Common.{◌≡◌, inl, ℕ, ◌==◌, List, [], ◌∷◌, ◌++◌, length, take, arith, Bool, true, false, not, filter, refl, sym, ap, ◌∙◌, subst}
use Rattle.std.proofs.Math.Seq.{take-append_seam}
use Rattle.std.proofs.lemmas.Bool.Decides.{nat_tests}
use Rattle.foundation.specs.Member.{Appends, Lists, Member}
use Rattle.foundation.specs.Tests.{is_nil}
use Rattle.foundation.proofs.Members.{filter-member, lists-same, member-filter}
use Rattle.rules_model.specs.declared.board.Repeat.{Repeat}
use Rattle.rules_model.specs.declared.moves.Move.{Move}
use Rattle.rules_model.specs.declared.rules.Rules.{Rules}
use Rattle.rules_model.specs.Legal.{is_stuck, legal}
use Rattle.rules_model.specs.Next.{captures}
use Rattle.negamax.specs.declared.scored_moves.ScoredMove.{ScoredMove}
use Rattle.negamax.specs.Trials.{Copies, Pushes, captures_in}
use Rattle.legality.specs.Stance.{IsCaptureIn, Stance, legal_in, repeat_in}

module _ {X : Type 0} where
  -- what is appended to nothing is all
  pub appended_all : (P : X → Type 0) (old new : List X) → old ≡ [] → Appends P old new → Lists P new
  appended_all P old new none h = subst (Lists P) (sym (h.is ∙ ap (λ xs. xs ++ h.added) none)) h.each

-- the legal captures, where they are appended to nothing
pub appended_captures : (s : Stance) (old new : List Move) → old ≡ [] → Appends (IsCaptureIn s) old new → Lists (λ m. Member m (captures_in s)) new
appended_captures s old new none h =
    lists-same _ _ new (appended_all _ old new none h)
    (λ m k. member-filter (captures s.rules (repeat_in s)) m (legal_in s) k.0 k.1)
    (λ m k. filter-member (captures s.rules (repeat_in s)) m (legal_in s) k)

-- candidates of all the moves, each once
pub copies_push : (all ms ns : List Move) (old old' new : List ScoredMove) → Lists (λ m. Member m all) ms → ns ≡ ms → Copies ns old' new
    → old' ≡ old → Pushes (λ m. Member m all) old new
copies_push all ms ns old old' new h same k from = record {
  added = k.added;
  is = k.is ∙ ap (λ xs. xs ++ k.added) from;
  each = subst (Lists (λ m. Member m all)) (sym (k.are ∙ same)) h;
}

-- a list of certain moves, each once, is empty exactly where there are none
lists-empty : (all ms : List Move) → Lists (λ m. Member m all) ms → is_nil ms ≡ is_nil all
lists-empty [] [] h = refl
lists-empty [] (x ∷ ms) h = absurd (h.sound x (inl refl))
lists-empty (x ∷ all) [] h = absurd (h.complete x (inl refl))
lists-empty (x ∷ all) (y ∷ ms) h = refl

length-nil : (ms : List Move) → (length ms == 0) ≡ is_nil ms
length-nil [] = refl
length-nil (m ∷ ms) = grind (arith, nat_tests)

pub lists-stuck : (rules : Rules) (r : Repeat) (ms : List Move) → Lists (λ m. Member m (legal rules r)) ms → (length ms == 0) ≡ is_stuck rules r
unfolding is_stuck
lists-stuck rules r ms h = length-nil ms ∙ lists-empty (legal rules r) ms h

pub no_nil : {X : Type 0} (x : X) (xs : List X) → Member x xs → is_nil xs ≡ false
no_nil x [] h = absurd h
no_nil x (y ∷ xs) h = refl

-- where some of the legal moves were listed, one is legal
pub some-not-stuck : (rules : Rules) (r : Repeat) (p : Move → Bool) (ms : List Move) → Lists (λ m. Member m (filter p (legal rules r))) ms → not (length ms == 0) ≡ true
    → true ≡ not (is_stuck rules r)
unfolding is_stuck
some-not-stuck rules r p [] h e = cc
some-not-stuck rules r p (m ∷ ms) h e =
    sym (ap not (no_nil m (legal rules r) (filter-member p m (legal rules r) (h.sound m (inl refl))).0))

-- those that were appended are cut off again
pub pushed-cut : (P : Move → Type 0) (first : ℕ) (old new : List ScoredMove) → Pushes P old new → first ≡ length old → take first new ≡ old
pushed-cut P first old new p e = ap (take first) p.is ∙ ap (λ k. take k (old ++ p.added)) e ∙ take-append_seam old p.added
