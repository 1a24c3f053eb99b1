-- What a source that gave some lines decides.
use Rattle.std.specs.Prelude.{ℕ, ◌≤◌, ◌⊎◌, List, ◌++◌, Option, length}
use Rattle.std.specs.Io.KnownBytes.{IsAtEnd}
use Rattle.io_ports.specs.Lines.{Line}
use Rattle.io_ports.specs.Source.{Takes}

-- Between two moments a source gave lines, no more of them than are needed, of which this holds: of these lines, where
-- none is left, or of these and any others after them.
pub record HeardLines (left left' : Option (List ℕ)) (needed : List Line → ℕ)
    (Holds : List Line → Type 0) : Type 0 where
  pub lines : List Line
  pub took : Takes left left' lines
  pub few : (more : List Line) → length lines ≤ needed (lines ++ more)
  pub holds : (IsAtEnd left' × Holds lines) ⊎ ((more : List Line) → Holds (lines ++ more))
