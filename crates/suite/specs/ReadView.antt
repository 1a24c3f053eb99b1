-- What the code answers of the lines of a suite, as the definitions have it.
use Rattle.std.specs.Prelude.{◌≡◌, Result, Ok, Err, ⊤}
use Rattle.game_text.specs.declared.unmade.Unmade.{Unmade}
use Rattle.game_text.specs.declared.unmade.Unmade.TheVariants.{Faulty, Unread, Memory}
use Rattle.suite.specs.declared.fault.SuiteFault.{SuiteFault}

-- why a suite has no report
abbrev pub NoSuite : Type 0
NoSuite = Unmade SuiteFault

-- A line says this, or has this fault. Without memory nothing is known of it.
abbrev pub Reads : {A : Type 0} → Result A SuiteFault → Result A NoSuite → Type 0
Reads said (Ok x) = said ≡ Ok x
Reads said (Err (Faulty fault)) = said ≡ Err fault
Reads said (Err Unread) = ⊥
Reads said (Err Memory) = ⊤
