-- The positions of a game that were left by a move are not ended by themselves.
use Rattle.std.proofs.Common.{◌≡◌, inl, inr, List, [], ◌∷◌, Bool, true, false, None, refl, sym, subst}
use Rattle.foundation.specs.Member.{Member}
use Rattle.foundation.proofs.Members.{member-append}
use Rattle.rules_model.specs.declared.board.Position.{Position}
use Rattle.rules_model.specs.declared.board.Side.{Side}
use Rattle.rules_model.specs.declared.moves.Move.{Move}
use Rattle.rules_model.specs.declared.moves.Outcome.{Outcome}
use Rattle.rules_model.specs.declared.moves.Outcome.TheVariants.{Ongoing, Won, Drawn}
use Rattle.rules_model.specs.declared.rules.Rules.{Rules}
use Rattle.rules_model.specs.Repeats.{repeat_of}
use Rattle.rules_model.specs.Ends.{is_ongoing}
use Rattle.rules_model.specs.Legal.{legal, own_end}
use Rattle.rules_model.specs.Games.{Story, history, played, story_from, story_of, are_legal, IsGame}
use Rattle.rules_model.proofs.PlayLaws.{legal-ended}
use Rattle.rules_model.proofs.ResultLaws.{story_from-none, story_from-more, are_legal-more}
use Rattle.forced_wins.specs.Games as AnyGame
use Rattle.forced_wins.specs.Views.{won_by, seen_by, as_any}

on_test : (o : Outcome) (a : Side) → is_ongoing o ≡ true → won_by a o ≡ None
on_test Ongoing a h = refl
on_test (Won s c) a h = cc
on_test (Drawn c) a h = cc

is_true : (b : Bool) → (b ≡ false → ⊥) → b ≡ true
is_true true f = refl
is_true false f = absurd (f refl)

module _ (rules : Rules) (a : Side) where
  -- a position with a legal move is not ended by itself
  left : (p : Position) (m : Move) → Member m (legal rules (repeat_of p)) → won_by a (own_end rules (repeat_of p)) ≡ None
  left p m h = on_test _ a (is_true _ (λ e. subst (Member m) (legal-ended rules (repeat_of p) e) h))

  abbrev AreLeft : List Position → Type 0
  AreLeft ps = (p : Position) → Member p ps → won_by a (own_end rules (repeat_of p)) ≡ None

  longer : (g : Story) → AreLeft g.earlier → won_by a (own_end rules (repeat_of g.last)) ≡ None → AreLeft (history g)
  longer g f e p is = elim (member-append p g.earlier (g.last ∷ []) is) as (λ _. won_by a (own_end rules (repeat_of p)) ≡ None) [
    | inl m ↦ f p m
    | inr m ↦ elim m as (λ _. won_by a (own_end rules (repeat_of p)) ≡ None) [ inl s ↦ subst (λ q. won_by a (own_end rules (repeat_of q)) ≡ None) s e | inr none ↦ absurd none ]
  ]

  along : (ms : List Move) (g : Story) → AreLeft g.earlier → are_legal rules g.last ms ≡ true → AreLeft (story_from rules g ms).earlier
  along [] g f h = subst (λ (s : Story). AreLeft s.earlier) (sym (story_from-none rules g)) f
  along (m ∷ ms) g f h =
      let k = (are_legal-more rules g.last m ms).0 h in
      subst (λ (s : Story). AreLeft s.earlier) (sym (story_from-more rules g m ms)) (along ms (played rules g m) (longer g f (left g.last m k.0)) k.1)

  pub game-played : (start : Position) (ms : List Move) → IsGame rules start ms → AnyGame.IsPlayed (seen_by rules a) (as_any (story_of rules start ms))
  game-played start ms h = along ms (record { earlier = []; last = start }) (λ p m. absurd m) h.legal_moves
