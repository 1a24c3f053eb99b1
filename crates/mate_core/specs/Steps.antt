-- The core: what each event makes of the store, and its reply.
use Rattle.std.specs.Prelude.{ℕ, List, [], ◌∷◌, ◌++◌, Option, Some, None, slice_get, slice_set, if◌then◌else◌}
use Rattle.rules_model.specs.declared.board.Repeat.{Repeat}
use Rattle.forced_wins.specs.declared.fact.Fact.{Fact}
use Rattle.mate_core.specs.declared.event.Event.{Event}
use Rattle.mate_core.specs.declared.event.Event.TheVariants.{Publish, Look, Hint}
use Rattle.mate_core.specs.declared.event.Reply.{Reply}
use Rattle.mate_core.specs.declared.event.Reply.TheVariants.{Stored, KnownBetter, Full, Found, Nothing}
use Rattle.mate_core.specs.declared.store.Store.{Store}
use Rattle.mate_core.specs.Best.{best, has_better, is_full, stored}

-- a fact, where there is one, as a list
abbrev pub facts : Option Fact → List Fact
facts None = []
facts (Some f) = f ∷ []

-- ---- one list

-- the reply of a list with so many places to a fact that is published
abbrev pub published : ℕ → List Fact → Fact → Reply
published capacity fs f = if has_better fs f then KnownBetter else if is_full capacity fs then Full else Stored

-- the list behind it
abbrev pub grown : ℕ → List Fact → Fact → List Fact
grown capacity fs f = fs ++ facts (stored capacity fs f)

-- ---- the store

-- the worker knows this too, where there is something
abbrev pub told : Store → ℕ → Option Fact → Store
told s worker None = s
told s worker (Some f) = record s { known = s.known ++ (record { worker = worker; fact = f }) ∷ [] }

abbrev pub publish_at : Store → ℕ → ℕ → Fact → Option (List Fact) → Store × Reply
publish_at s worker shard f None = (s, Nothing)
publish_at s worker shard f (Some fs) = (
  told (record s { shards = slice_set s.shards shard (grown s.capacity fs f) }) worker
      (Some f),
  published s.capacity fs f,
)

abbrev pub look_at : Store → ℕ → Repeat → ℕ → ℕ → Option (List Fact) → Store × Reply
look_at s worker repeat counter moves None = (s, Nothing)
look_at s worker repeat counter moves (Some fs) =
    (told s worker (best fs repeat counter moves), Found (best fs repeat counter moves))

-- the store behind an event, and the reply. Where there is no such shard nothing changes
unfoldable pub step : Store → Event → Store × Reply
step s (Publish worker shard fact) = publish_at s worker shard fact (slice_get s.shards shard)
step s (Look worker shard repeat counter moves) = look_at s worker repeat counter moves (slice_get s.shards shard)
step s (Hint word value) = (s, Nothing)
