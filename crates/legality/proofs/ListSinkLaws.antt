-- What a list of the chosen moves keeps of the moves to many squares.
use Rattle.std.proofs.Common.{◌≡◌, ℕ, ◌<◌, Bool, true, false, not, ◌&&◌, ◌||◌, cond, List, [], ◌∷◌, ◌++◌, inl, inr, refl, sym, ap, ◌∙◌, subst, append-nil}
use Rattle.std.specs.List.{filter}
use Rattle.foundation.specs.Member.{Member}
use Rattle.rules_model.specs.declared.board.Square.{Square}
use Rattle.rules_model.specs.declared.moves.Move.{Move}
use Rattle.square_set.specs.declared.Set.{Set}
use Rattle.square_set.specs.Members.{has}
use Rattle.piece_moves.specs.InTurn.{MadeTo, Outside, target_of}
use Rattle.piece_moves.specs.Taking.{IsSink, TakesAll, TakesSome}
use Rattle.legality.specs.declared.list_sink.ListSink.{ListSink}
use Rattle.legality.specs.Choices.{chosen_by}
use Rattle.legality.specs.Chosen.{AreTargetsOf}
use Rattle.legality.specs.Keeps.{Keeps}
use Rattle.legality.specs.Sinks.{keeper_is_sink}
use Rattle.legality.proofs.ToldLaws.{not_passed, others, others_each}

pub none_kept : {X : Type 0} (p : X → Bool) (xs : List X) → ((x : X) → Member x xs → p x ≡ false) → filter p xs ≡ []
none_kept p [] h = refl
none_kept p (x ∷ xs) h = ap (λ b. cond b (x ∷ filter p xs) (filter p xs)) (h x (inl refl)) ∙ none_kept p xs (λ y m. h y (inr m))

-- before the first that is worth a look, the others were taken, and none of them was kept
pub others_taken : (make : Square → Move) (targets told chosen worth : Set) (s : ListSink) → ((to : Square) → target_of (make to) ≡ to.0) → ((k : ℕ) → has told k ≡ true → has targets k ≡ true) → AreTargetsOf (chosen_by s.move_filter) make told chosen
    → ((k : ℕ) → has worth k ≡ ((has targets k && not (has told k)) || has chosen k)) → ((k : ℕ) → has targets k ≡ true → k < 128) → TakesAll Keeps (Outside (MadeTo make targets) target_of worth) s s
others_taken make targets told chosen worth s goes_there within are is small =
    let test = chosen_by s.move_filter in
    let ms = others make targets told chosen worth test within are is in
    record {
      moves = ms;
      taken = (refl, sym (ap (λ l. s.list ++ l) (none_kept test ms (not_passed make targets told chosen worth test within are is goes_there small)) ∙ append-nil s.list));
      each = others_each make targets told chosen worth test within are is goes_there small;
    }

pub keeper_sink : IsSink Keeps Keeps
keeper_sink = keeper_is_sink (λ (keeper : ListSink). keeper.move_filter) (λ (keeper : ListSink). keeper.list) chosen_by

-- of the one move that was not put on the list for want of memory
pub nothing_kept : (P : Move → Type 0) (s t : ListSink) → Keeps s [] t → TakesSome Keeps P s t
nothing_kept P s t e = record { moves = []; taken = e; once = tt; sound = λ m h. absurd h }

-- what is told by the filter is told by it later
pub still_chosen : (P : Move → Type 0) (s t : ListSink) (m : Move) → TakesAll Keeps P s t → chosen_by s.move_filter m ≡ true → chosen_by t.move_filter m ≡ true
still_chosen P s t m a e = subst (λ move_filter. chosen_by move_filter m ≡ true) (sym a.taken.0) e
