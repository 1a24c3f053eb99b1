-- What is answered to a line that asks no search.
use Rattle.std.specs.Prelude.{◌≡◌, ◌⊎◌, ℕ, List, [], ◌∷◌, ◌++◌, map, Option, Some, None, Result, Ok, Err}
use Rattle.io_ports.specs.Files.{Found, Read}
use Rattle.io_ports.specs.Lines.{Line}
use Rattle.session_model.specs.Turns.{Turn}
use Rattle.session_model.specs.UciLines as line
use Rattle.session_model.specs.UciLines.{Command, Setting}
use Rattle.session_model.specs.UciSession.{Answers}
use Rattle.session_model.specs.UciState.{State, file_named}
use Rattle.session_model.specs.UciTexts.{error_line}
use Rattle.uci_front.specs.declared.refusal.Refusal.{Refusal}
use Rattle.uci_front.specs.declared.refusal.Refusal.TheVariants.{Fault, Memory}
use Rattle.uci_lines.specs.declared.line.CommandKind.{CommandKind}
use Rattle.uci_lines.specs.declared.line.CommandKind.TheVariants as kind
use Rattle.watching.specs.Events.{Event, Says, Opens}

-- the file that a setting reads, where it reads one
abbrev pub file_of : Setting → Option (List ℕ)
file_of (line.VariantPath value) = file_named value
file_of setting = None

-- neither `go` nor `quit`
abbrev pub IsPlainKind : CommandKind → Type 0
IsPlainKind kind.Go = ⊥
IsPlainKind kind.Quit = ⊥
IsPlainKind k = Unit {0}

-- nor does it read a file
abbrev pub IsAtOnce : CommandKind → Type 0
IsAtOnce kind.SetOption = ⊥
IsAtOnce k = IsPlainKind k

-- the event of a text, where there is one
abbrev pub saying : Option (List ℕ) → List Event
saying None = []
saying (Some text) = Says text ∷ []

abbrev pub text_said : Option (List ℕ) → List ℕ
text_said None = []
text_said (Some text) = text

-- files were read, and then this text is to be said, if any
abbrev pub plain_events : List Read → Option (List ℕ) → List Event
plain_events reads text = map Opens reads ++ saying text

-- that is an answer to the command
abbrev pub Answering : State → State → Command → List Event → Type 0
Answering state after command events =
    (turn : Turn State) (following : List Line) → turn.after ≡ after → turn.events ≡ events
    → Answers ⊥ state turn following command

-- a file was read that the command names
abbrev pub IsNamedRead : Command → List Read → Type 0
IsNamedRead command reads =
    (value : Option (List ℕ)) × (name : List ℕ) × (found : Found)
    × (command ≡ line.SetOption (line.VariantPath value))
    × (file_named value ≡ Some name)
    × (reads ≡ record { name = name; found = found } ∷ [])

-- The answer to the command, after these reads. Without memory no more is known than what may have been read.
abbrev pub Plainly : {E : Type 0} → State → State → Command → List Read → Result (Option (List ℕ)) E → Type 0
Plainly state after command reads (Ok text) = Answering state after command (plain_events reads text)
Plainly state after command reads (Err why) = (reads ≡ []) ⊎ IsNamedRead command reads

-- ---- what is said of what a line set

-- nothing, or its fault
abbrev pub outcome_said : {A : Type 0} → Result A Refusal → Option (List ℕ)
outcome_said (Ok x) = None
outcome_said (Err (Fault text)) = Some (error_line text)
outcome_said (Err Memory) = None

-- there is memory for what is said
abbrev pub IsTold : {A : Type 0} → Result A Refusal → Type 0
IsTold (Ok x) = Unit {0}
IsTold (Err (Fault text)) = Unit {0}
IsTold (Err Memory) = ⊥
