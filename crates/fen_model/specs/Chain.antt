-- Steps of which the first fault is the answer.
use Rattle.std.specs.Prelude.{Option, Some, None, Result, Ok, Err}
use Rattle.fen_model.specs.declared.fault.FenFault.{FenFault}

infixl 10 ◌>>=◌
abbrev pub ◌>>=◌ : {A B : Type 0} → Result A FenFault → (A → Result B FenFault) → Result B FenFault
Ok x >>= f = f x
Err fault >>= f = Err fault

-- what is there, or else the fault
abbrev pub or_fault : {A : Type 0} → FenFault → Option A → Result A FenFault
or_fault fault None = Err fault
or_fault fault (Some x) = Ok x
