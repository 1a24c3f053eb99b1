use Rattle.std.proofs.Common.{rules, ◌≡◌, inl, inr, ℕ, List, Ok, Err, IfOk, subst, ◌∙◌}
use Rattle.game_play.specs.Played.{Played}
use Rattle.checkers.specs.CheckersText.{checkers_of}
use Rattle.std.specs.declared.result.Result.{Result}
use Rattle.foundation.specs.declared.Memory.{Memory}
use Rattle.referee_c.specs.declared.Reply.{Reply}
use Rattle.referee_c.specs.HeldGames.{IsTold, TellsHeld}
use Rattle.referee_c.specs.Written.{Tells}
use Rattle.referee_c.proofs.games.vengine_checkers.Goals as goal

-- a text that was told, where it is this one
told_is : (r : Result (List ℕ) Memory) (text room room' : List ℕ) (reply : Reply) → IsTold r room room' reply → IfOk r (λ t. t ≡ text) → TellsHeld text room room' reply
told_is (Ok t) text room room' reply told is = inl (subst (λ (x : List ℕ). Tells 0 x room room' reply) is told)
told_is (Err why) text room room' reply told is = inr told

pub returns-clause-told : goal.returns-clause-told
returns-clause-told g c =
    told_is c.checkers_of-text.result _ _ _ _ c.told.ensures (subst (λ (x : Played). IfOk c.checkers_of-text.result (λ t. t ≡ checkers_of x)) (c.deref.ensures ∙ c.take-kept.ensures.is) c.checkers_of-text.ensures)
