-- What the code answers of a source's lines, as the definitions have it.
use Rattle.std.specs.Prelude.{◌≡◌, ◌≤◌, ◌⊎◌, ℕ, ◌+◌, Bool, true, false, List, [], ◌∷◌, ◌++◌, Option, Some, None, Result, Ok, Err, ⊤, length, option_and_then, if◌then◌else◌}
use Rattle.std.specs.Io.KnownBytes.{IsAtEnd}
use Rattle.game_text.specs.HeardLines.{HeardLines}
use Rattle.io_ports.specs.Lines.{Line, Text, TooLong}
use Rattle.io_ports.specs.Source.{Takes}
use Rattle.rules_model.specs.declared.board.Position.{Position}
use Rattle.rules_model.specs.declared.rules.Rules.{Rules}
use Rattle.fen_model.specs.declared.fault.FenFault.{FenFault}
use Rattle.game_play.specs.Played.{Played}
use Rattle.proof_text.specs.declared.fault.ProofFault.{ProofFault}
use Rattle.proof_text.specs.declared.source_lines.NoProof.{NoProof}
use Rattle.proof_text.specs.declared.source_lines.NoProof.TheVariants.{Faulty, Unread}
use Rattle.proof_text.specs.declared.proof.Proof.{Proof}
use Rattle.proof_text.specs.Fault.{IsFaultOrMemory}
use Rattle.proof_text.specs.Reading.{Reading, history_on, with_start}

-- the source failed
abbrev pub IsUnread : {A : Type 0} → Result A NoProof → Type 0
IsUnread (Ok x) = ⊥
IsUnread (Err (Faulty fault)) = ⊥
IsUnread (Err Unread) = ⊤

-- ---- one line

-- whether a line was taken that is not too long, and is this text
abbrev pub TakesText : Option (List ℕ) → Option (List ℕ) → List ℕ → Result Bool NoProof → Type 0
TakesText left left' text (Ok true) = Takes left left' (Text text ∷ [])
TakesText left left' text (Ok false) = Takes left left' (TooLong ∷ []) ⊎ (Takes left left' [] × IsAtEnd left')
TakesText left left' text (Err (Faulty fault)) = ⊥
TakesText left left' text (Err Unread) = Takes left left' []

abbrev pub text_if : Bool → List ℕ → Option (List ℕ)
text_if there text = if there then Some text else None

-- ---- what lines say

-- the lines have this fault, or there was no memory, or the source failed
abbrev pub HasWhy : {A : Type 0} → Result A ProofFault → NoProof → Type 0
HasWhy said (Faulty fault) = IsFaultOrMemory said fault
HasWhy said Unread = ⊤

-- the lines say this, or that is why nothing was read
abbrev pub SaysProof : {A : Type 0} → Result A ProofFault → Result A NoProof → Type 0
SaysProof said (Ok x) = said ≡ Ok x
SaysProof said (Err why) = HasWhy said why

-- what a line says, or the fault of one that says nothing
abbrev pub or_fault : {A : Type 0} → ProofFault → Option A → Result A ProofFault
or_fault fault None = Err fault
or_fault fault (Some x) = Ok x

-- what a text says, where there is one, or the fault of a line that says nothing
abbrev pub text_said : {A : Type 0} → ProofFault → (List ℕ → Option A) → Option (List ℕ) → Result A ProofFault
text_said fault said text = or_fault fault (option_and_then said text)

-- lines were taken, no more than are needed, which say so with any others after them
abbrev pub Hears : Option (List ℕ) → Option (List ℕ) → Reading → (Result Proof ProofFault → Type 0) → Type 0
Hears left left' on Says = HeardLines left left' on.needs (λ lines. Says (on.says lines))

-- which say this proof, or that is why nothing was read
abbrev pub HearsProof : Option (List ℕ) → Option (List ℕ) → Reading → Result Proof NoProof → Type 0
HearsProof left left' on result = Hears left left' on (λ said. SaysProof said result)

-- ---- part after part

-- lines were taken, and those after them are read on so
pub record GoesOn (left left' : Option (List ℕ)) (on next : Reading) : Type 0 where
  pub lines : List Line
  pub took : Takes left left' lines
  pub says : (more : List Line) → on.says (lines ++ more) ≡ next.says more
  pub needs : (more : List Line) → length lines + next.needs more ≤ on.needs (lines ++ more)

-- the lines of a part say something, by which those after them are read; or that is why nothing was read
abbrev pub Reads : {A : Type 0} → Option (List ℕ) → Option (List ℕ) → Reading → (A → Reading) → Result A NoProof
    → Type 0
Reads left left' on next (Ok x) = GoesOn left left' on (next x)
Reads left left' on next (Err why) = Hears left left' on (λ said. HasWhy said why)

-- the game starts from the position that a text says, or that is why none does
abbrev pub Starts : ℕ → Rules → Result Position FenFault → Result Played NoProof → Type 0
Starts number rules said (Ok g) = with_start number rules said ≡ history_on (number + 1) g
Starts number rules said (Err why) = (lines : List Line) → HasWhy ((with_start number rules said).says lines) why
