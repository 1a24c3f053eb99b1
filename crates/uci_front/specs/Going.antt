-- An answer to `go`.
use Rattle.std.specs.Prelude.{◌≡◌, ℕ, List, [], Option}
use Rattle.io_ports.specs.Files.{Contents}
use Rattle.io_ports.specs.Lines.{Line}
use Rattle.io_ports.specs.Source.{Owed}
use Rattle.io_ports.specs.declared.source.Got.{Got}
use Rattle.watching.specs.Looks.{Moved}
use Rattle.session_model.specs.UciGo.{Go}
use Rattle.session_model.specs.UciLines as UciLines
use Rattle.session_model.specs.UciLines.{command_of}
use Rattle.session_model.specs.UciSession.{uci}
use Rattle.session_model.specs.UciState.{State}
use Rattle.session_model.specs.Turned.{Served, Unserved}
use Rattle.uci_front.specs.declared.plan.GoPlan.{GoPlan}
use Rattle.uci_front.specs.PlanView.{IsPlan}

-- the line that asks this `go` was answered, and the next one is there; no file was read
abbrev pub ServesGo : Moved → Owed → Owed → State → State → GoPlan → Got → List ℕ → Type 0
ServesGo moved owed owed' state after plan next text =
    (line : Line) (asked : Go) → command_of line ≡ UciLines.Go asked → IsPlan state asked plan
    → Served uci moved (λ reads. reads ≡ []) owed owed' state after line next text

-- a fault ended the answer to it
abbrev pub UnservesGo : Moved → State → GoPlan → Type 0
UnservesGo moved state plan =
    (contents : Option Contents) (line : Line) (asked : Go) → command_of line ≡ UciLines.Go asked
    → IsPlan state asked plan
    → Unserved uci moved (λ reads. reads ≡ []) contents state line
