-- A move that is found, and what a seeker of a chosen move has seen of the moves to many squares.
use Rattle.std.proofs.Common.{◌≡◌, ℕ, ◌<◌, Bool, true, false, not, ◌&&◌, ◌||◌, List, [], ◌∷◌, inl, inr, refl, sym, ap, ◌∙◌, subst}
use Rattle.std.specs.List.{list_any}
use Rattle.std.proofs.lemmas.Bool.{or_left}
use Rattle.foundation.specs.Member.{Member}
use Rattle.rules_model.specs.declared.board.Square.{Square}
use Rattle.rules_model.specs.declared.moves.Move.{Move}
use Rattle.square_set.specs.declared.Set.{Set}
use Rattle.square_set.specs.Members.{has}
use Rattle.piece_moves.specs.InTurn.{MadeTo, Outside, target_of}
use Rattle.piece_moves.specs.Taking.{IsSink, TakesAll, TakesSome}
use Rattle.legality.specs.declared.any_sink.AnySink.{AnySink}
use Rattle.legality.specs.Choices.{chosen_by}
use Rattle.legality.specs.Chosen.{AreTargetsOf}
use Rattle.legality.specs.Seeks.{SeesNone, SeesOne}
use Rattle.legality.specs.Sinks.{SomePassed, seeker_is_sink}
use Rattle.legality.proofs.ToldLaws.{not_passed, others, others_each}

-- a sink that stops at a move that passes has taken it alone
pub stops_at : {S : Type 0} (test : S → Move → Bool) (s : S) (m : Move) → test s m ≡ true → TakesSome (SomePassed test) (λ x. x ≡ m) s s
stops_at test s m e = record {
  moves = m ∷ [];
  taken = (refl, or_left (test s m) false e);
  once = (λ h. absurd h, tt);
  sound = λ x h. elim h as (λ _. x ≡ m) [ inl f ↦ sym f | inr none ↦ absurd none ];
}

none_passes : {X : Type 0} (p : X → Bool) (xs : List X) → ((x : X) → Member x xs → p x ≡ false) → list_any p xs ≡ false
none_passes p [] h = refl
none_passes p (x ∷ xs) h = ap (λ b. b || list_any p xs) (h x (inl refl)) ∙ none_passes p xs (λ y m. h y (inr m))

-- before the first that is worth a look, the others were seen, and none of them is chosen
pub others_seen : (make : Square → Move) (targets told chosen worth : Set) (s : AnySink) → ((to : Square) → target_of (make to) ≡ to.0) → ((k : ℕ) → has told k ≡ true → has targets k ≡ true) → AreTargetsOf (chosen_by s.move_filter) make told chosen
    → ((k : ℕ) → has worth k ≡ ((has targets k && not (has told k)) || has chosen k)) → ((k : ℕ) → has targets k ≡ true → k < 128) → TakesAll SeesNone (Outside (MadeTo make targets) target_of worth) s s
others_seen make targets told chosen worth s goes_there within are is small =
    let test = chosen_by s.move_filter in
    let ms = others make targets told chosen worth test within are is in
    record {
      moves = ms;
      taken = (refl, none_passes test ms (not_passed make targets told chosen worth test within are is goes_there small));
      each = others_each make targets told chosen worth test within are is goes_there small;
    }

pub seeker_sink : IsSink SeesNone SeesOne
seeker_sink = seeker_is_sink (λ (seeker : AnySink). chosen_by seeker.move_filter)

-- what is told by the filter is told by it later
pub still_sought : (P : Move → Type 0) (s t : AnySink) (m : Move) → TakesAll SeesNone P s t → chosen_by s.move_filter m ≡ true → chosen_by t.move_filter m ≡ true
still_sought P s t m a e = subst (λ (seeker : AnySink). chosen_by seeker.move_filter m ≡ true) (sym a.taken.0) e
