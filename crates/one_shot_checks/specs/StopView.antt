-- Why a run is cut short.
use Rattle.std.specs.Prelude.{Result, Ok, Err, ⊤}
use Rattle.one_shot_checks.specs.declared.stop.Stop.{Stop}
use Rattle.one_shot_checks.specs.declared.stop.Stop.TheVariants.{Source, Sink, Memory}

-- the source failed
abbrev pub IsUnread : {A : Type 0} → Result A Stop → Type 0
IsUnread (Ok x) = ⊥
IsUnread (Err Source) = ⊤
IsUnread (Err Sink) = ⊥
IsUnread (Err Memory) = ⊥

-- the sink failed
abbrev pub IsUnsaid : {A : Type 0} → Result A Stop → Type 0
IsUnsaid (Ok x) = ⊥
IsUnsaid (Err Source) = ⊥
IsUnsaid (Err Sink) = ⊤
IsUnsaid (Err Memory) = ⊥
