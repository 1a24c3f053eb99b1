-- A run of two workers on two shards with one place each. The frame plays no part in it.
use Rattle.std.proofs.Common.{◌≡◌, List, [], ◌∷◌, None, Some, refl}
use Rattle.rules_model.specs.Games.{same_repeat}
use Rattle.forced_wins.specs.Facts.{serves}
use Rattle.mate_core.specs.declared.event.Event.{Event}
use Rattle.mate_core.specs.declared.event.Event.TheVariants.{Publish, Look, Hint}
use Rattle.mate_core.specs.declared.event.Reply.TheVariants.{Found, Nothing}
use Rattle.mate_core.specs.declared.frame.Frame.{Frame}
use Rattle.mate_core.specs.declared.store.Store.{Store}
use Rattle.mate_core.specs.Best.{best, is_as_good}
use Rattle.mate_core.specs.Steps.{step}
use Rattle.mate_core.specs.Runs.{after_all, known_to}
use Rattle.fact_tests.proofs.worked.Answers.{bare, held, wins_in_three, wins_in_two}

module _ (frame : Frame) where
  abbrev fresh : Store
  fresh = record { frame = frame; capacity = 1; shards = [] ∷ [] ∷ []; known = [] }

  abbrev opening : List Event
  opening = Publish 7 1 wins_in_three ∷ Look 8 1 bare 10 3 ∷ Look 8 0 bare 10 3 ∷ Hint 0 99 ∷ Publish 8 1 wins_in_two ∷ []

  stands_in_its_shard : (after_all fresh opening).shards ≡ [] ∷ (wins_in_three ∷ []) ∷ []
  unfolding after_all step best is_as_good serves same_repeat
  stands_in_its_shard = refl

  -- worker 8 has found one fact and published another, which had no place
  known_by_both : known_to 8 (after_all fresh opening).known ≡ wins_in_three ∷ wins_in_two ∷ []
  unfolding after_all step best is_as_good serves same_repeat
  known_by_both = refl

  known_by_one : known_to 7 (after_all fresh opening).known ≡ wins_in_three ∷ []
  unfolding after_all step best is_as_good serves same_repeat
  known_by_one = refl

  known_by_none : known_to 9 (after_all fresh opening).known ≡ []
  unfolding after_all step best is_as_good serves same_repeat
  known_by_none = refl

  is_found : (step (after_all fresh opening) (Look 9 1 bare 3 4)).1 ≡ Found (Some wins_in_three)
  unfolding after_all step best is_as_good serves same_repeat
  is_found = refl

  is_not_found : (step (after_all fresh opening) (Look 9 1 held 3 4)).1 ≡ Found None
  unfolding after_all step best is_as_good serves same_repeat
  is_not_found = refl

  no_such_shard : step fresh (Publish 7 2 wins_in_three) ≡ (fresh, Nothing)
  unfolding step
  no_such_shard = refl

  no_such_shard_to_look_in : step fresh (Look 7 2 bare 0 9) ≡ (fresh, Nothing)
  unfolding step
  no_such_shard_to_look_in = refl

  hints_change_nothing : step fresh (Hint 5 6) ≡ (fresh, Nothing)
  unfolding step
  hints_change_nothing = refl
