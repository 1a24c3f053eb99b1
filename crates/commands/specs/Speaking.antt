-- What a session leaves that is held from the start of its protocol, and the status that it gives its run.
use Rattle.std.specs.Prelude.{◌≡◌, ℕ, List, Option, Some, Result, Ok, Err}
use Rattle.io_ports.specs.declared.dialect.Dialect.{Dialect}
use Rattle.io_ports.specs.declared.dialect.Dialect.TheVariants.{Uci, Cecp}
use Rattle.io_ports.specs.declared.limits.SearchFault.{SearchFault}
use Rattle.io_ports.specs.declared.limits.SearchFault.TheVariants as fault
use Rattle.io_ports.specs.Files.{Contents, Read}
use Rattle.io_ports.specs.Source.{Owed}
use Rattle.io_ports.specs.Trace.{Moves}
use Rattle.io_ports.specs.declared.ports.Ports.{Ports}
use Rattle.session_model.specs.CecpSession.{cecp}
use Rattle.session_model.specs.CecpState as CecpState
use Rattle.session_model.specs.Turns.{Protocol}
use Rattle.session_model.specs.UciSession.{uci}
use Rattle.session_model.specs.UciState as UciState
use Rattle.session_model.specs.Spoken.{Spoke, SpokePart}
use Rattle.variant_ini.specs.Section.{Section}
use Rattle.watching.specs.Looks.{Moved}

-- a session spoke from its start to its end
pub record SpokeFrom (S : Type 0) (p : Protocol S) (start : Option S) (moved : Moved) (asked : List Read → Type 0)
    (owed : Owed) (contents : Option Contents) (left : Option (List ℕ)) : Type 0 where
  pub state : S
  pub started : start ≡ Some state
  pub spoke : Spoke p moved asked owed contents left state

-- it spoke to a fault
pub record BrokeFrom (S : Type 0) (p : Protocol S) (start : Option S) (moved : Moved) (asked : List Read → Type 0)
    (contents : Option Contents) : Type 0 where
  pub state : S
  pub started : start ≡ Some state
  pub part : SpokePart p moved asked contents state

-- a session in a dialect, with these sections and this number of threads
abbrev pub SpokeIn : Dialect → List Section → ℕ → Moved → (List Read → Type 0) → Owed → Option Contents
    → Option (List ℕ) → Type 0
SpokeIn Uci sections threads moved asked owed contents left =
    SpokeFrom UciState.State uci (UciState.first_state sections threads) moved asked owed contents left
SpokeIn Cecp sections threads moved asked owed contents left =
    SpokeFrom CecpState.State cecp (CecpState.first_state sections) moved asked owed contents left

abbrev pub BrokeIn : Dialect → List Section → ℕ → Moved → (List Read → Type 0) → Option Contents → Type 0
BrokeIn Uci sections threads moved asked contents =
    BrokeFrom UciState.State uci (UciState.first_state sections threads) moved asked contents
BrokeIn Cecp sections threads moved asked contents =
    BrokeFrom CecpState.State cecp (CecpState.first_state sections) moved asked contents

-- the one to its end, or the other to a fault
abbrev pub Talks : {A : Type 0} → Dialect → List Section → ℕ → Moved → (List Read → Type 0) → Owed → Option Contents
    → Option (List ℕ) → Result A SearchFault → Type 0
Talks dialect sections threads moved asked owed contents left (Ok x) =
    SpokeIn dialect sections threads moved asked owed contents left
Talks dialect sections threads moved asked owed contents left (Err why) =
    BrokeIn dialect sections threads moved asked contents

-- what went through ports from their start to their end
abbrev pub moved_between : {S K C G : Type 0} → (S → Option (List ℕ)) → (K → Option (List ℕ)) → (C → Option (List ℕ))
    → (C → ℕ) → (C → ℕ) → Ports S K C G → Ports S K C G → Moved
moved_between left taken given count last ports ports' =
    Moves left taken given count last ports.source.now ports'.source.now ports.sink.now ports'.sink.now
    ports.clock.now ports'.clock.now

-- the status of a run whose session ended so
abbrev pub ended_status : {A : Type 0} → Result A SearchFault → ℕ
ended_status (Ok x) = 0
ended_status (Err fault.ReadFault) = 4
ended_status (Err fault.WriteFault) = 5
ended_status (Err fault.Memory) = 7
