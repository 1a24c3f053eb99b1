-- What a session leaves that spoke to its end, or to a fault.
use Rattle.std.specs.Prelude.{◌≡◌, ◌≤◌, ◌⊎◌, ℕ, List, [], ◌∷◌, ◌++◌, length, true, Option, Some, None, ⊤}
use Rattle.io_ports.specs.Files.{Contents, Read}
use Rattle.io_ports.specs.Lines.{Line, lines_of}
use Rattle.io_ports.specs.Source.{Owed, Untold}
use Rattle.watching.specs.Looks.{Moved}
use Rattle.session_model.specs.Turns.{Protocol, Session, lines_wanted}
use Rattle.session_model.specs.Turned.{Further}

-- the input, where the source tells its bytes: their lines; any, where it tells none
abbrev pub IsInput : Option (List ℕ) → List Line → Type 0
IsInput None input = ⊤
IsInput (Some bytes) input = lines_of bytes ≡ input

-- The lines that were taken decide: no lines of the input are left, or this holds of the lines taken and any others
-- after them.
abbrev pub Decide : List Line → List Line → (List Line → Type 0) → Type 0
Decide lines rest Holds = (rest ≡ []) ⊎ ((more : List Line) → Holds (lines ++ more))

-- A session spoke to its end. The lines that were taken are the first of the input, no more than a session wants, and
-- they decide it.
pub record Spoke {State : Type 0} (p : Protocol State) (moved : Moved) (asked : List Read → Type 0) (owed : Owed)
    (contents : Option Contents) (left : Option (List ℕ)) (start : State) : Type 0 where
  pub lines : List Line
  pub rest : List Line
  pub readings : List ℕ
  pub reads : List Read
  pub output : List ℕ
  pub moves : moved lines output readings
  pub asks : asked reads
  pub input : IsInput left (lines ++ rest)
  pub few : length lines ≤ lines_wanted p (lines ++ rest)
  pub decided : Decide lines rest (λ input. Session State p owed start contents reads input readings output)
  pub allowed : Session State p owed start contents reads (lines ++ rest) readings output

-- the last of the lines that were taken ends the session
pub record TookQuit {State : Type 0} (p : Protocol State) (moved : Moved) : Type 0 where
  pub before : List Line
  pub line : Line
  pub output : List ℕ
  pub readings : List ℕ
  pub moves : moved (before ++ line ∷ []) output readings
  pub quits : p.quits line ≡ true

-- A session wrote a front part of what it may write to the lines that were taken, and to no more: as if the input ended
-- after them, and with any answers to its polls.
pub record SpokePart {State : Type 0} (p : Protocol State) (moved : Moved) (asked : List Read → Type 0)
    (contents : Option Contents) (start : State) : Type 0 where
  pub lines : List Line
  pub readings : List ℕ
  pub reads : List Read
  pub further : List Read
  pub front : List ℕ
  pub back : List ℕ
  pub moves : moved lines front readings
  pub asks : asked reads
  pub more : Further contents further
  pub few : length lines ≤ lines_wanted p lines
  pub allowed : Session State p Untold start contents (reads ++ further) lines readings (front ++ back)
