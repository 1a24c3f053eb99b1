-- Stores that allowed events reach, and the truth of their facts.
use Rattle.std.specs.Prelude.{◌≡◌, ℕ, ◌==◌, List, [], ◌∷◌, map, All}
use Rattle.std.specs.List.{filter}
use Rattle.forced_wins.specs.declared.fact.Fact.{Fact}
use Rattle.forced_wins.specs.Facts.{IsTrueFact, IsGrounded}
use Rattle.mate_core.specs.declared.event.Event.{Event}
use Rattle.mate_core.specs.declared.event.Event.TheVariants.{Publish, Look, Hint}
use Rattle.mate_core.specs.declared.frame.Frame.{Frame}
use Rattle.mate_core.specs.declared.store.Known.{Known}
use Rattle.mate_core.specs.declared.store.Store.{Store}
use Rattle.mate_core.specs.Steps.{step}

-- ---- truth

abbrev pub IsTrueIn : Frame → Fact → Type 0
IsTrueIn frame f = IsTrueFact frame.rules frame.blocked frame.attacker f

-- all of the facts are true in the frame
abbrev pub AreTrueIn : Frame → List Fact → Type 0
AreTrueIn frame fs = All (IsTrueIn frame) fs

-- every fact in every shard is true in the store's frame, and every known one
pub record HoldsTruth (s : Store) : Type 0 where
  pub shards : All (AreTrueIn s.frame) s.shards
  pub known : All (λ k. IsTrueIn s.frame k.fact) s.known

-- ---- runs

-- the facts that the worker has published or found, in order
abbrev pub known_to : ℕ → List Known → List Fact
known_to worker known = map (λ k. k.fact) (filter (λ k. k.worker == worker) known)

-- a fact that is published follows from what its worker knows
abbrev pub IsAllowed : Store → Event → Type 0
IsAllowed s (Publish worker shard fact) =
    IsGrounded s.frame.rules s.frame.blocked s.frame.attacker (known_to worker s.known) fact
IsAllowed s (Look worker shard repeat counter moves) = Unit {0}
IsAllowed s (Hint word value) = Unit {0}

-- each of the events is allowed in its turn
abbrev pub AreAllowed : Store → List Event → Type 0
AreAllowed s [] = Unit {0}
AreAllowed s (e ∷ es) = IsAllowed s e × AreAllowed (step s e).0 es

-- the store behind them all
unfoldable pub after_all : Store → List Event → Store
after_all s [] = s
after_all s (e ∷ es) = after_all (step s e).0 es

-- no fact stands in a shard, and none is known
pub record HasNoFact (s : Store) : Type 0 where
  pub shards : All (λ fs. fs ≡ []) s.shards
  pub known : s.known ≡ []

-- some list of allowed events leads to the store, from one without facts
pub record IsReached (s : Store) : Type 0 where
  pub start : Store
  pub events : List Event
  pub empty : HasNoFact start
  pub allowed : AreAllowed start events
  pub is : after_all start events ≡ s
