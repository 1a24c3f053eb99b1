-- A session as turns: each a line, what goes on while it is answered, and the state after it.
use Rattle.std.specs.Prelude.{◌≡◌, ℕ, suc, ◌+◌, List, [], ◌∷◌, ◌++◌, Bool, true, false, if◌then◌else◌, Option}
use Rattle.std.specs.List.{flat_map}
use Rattle.io_ports.specs.declared.dialect.Dialect.{Dialect}
use Rattle.io_ports.specs.Files.{Contents, Read, Finds}
use Rattle.io_ports.specs.Lines.{Line}
use Rattle.io_ports.specs.Source.{Owed}
use Rattle.watching.specs.Events.{Event, heard_lines as heard, written, readings, opened}
use Rattle.io_ports.specs.Owing.{Lacks}

pub record Turn (S : Type 0) : Type 0 where
  pub line : Line
  pub events : List Event
  pub after : S

-- A protocol with this state. `answers` speaks of a turn from a state, with the lines that follow it, where a line or
-- the end of the lines may interrupt its search if the first argument holds.
pub record Protocol (S : Type 0) : Type 1 where
  pub dialect : Dialect
  pub quits : Line → Bool
  -- the polls that the line can take
  pub bound : S → Line → ℕ
  pub answers : Type 0 → S → Turn S → List Line → Type 0

-- ---- what turns take and leave

abbrev pub lines_in : {S : Type 0} → List (Turn S) → List Line
lines_in turns = flat_map (λ turn. turn.line ∷ heard turn.events) turns

abbrev pub output_in : {S : Type 0} → Dialect → List (Turn S) → List ℕ
output_in dialect turns = flat_map (λ turn. written dialect turn.events) turns

abbrev pub readings_in : {S : Type 0} → List (Turn S) → List ℕ
readings_in turns = flat_map (λ turn. readings turn.events) turns

abbrev pub reads_in : {S : Type 0} → List (Turn S) → List Read
reads_in turns = flat_map (λ turn. opened turn.events) turns

-- the state after turns
abbrev pub after_turns : {S : Type 0} → S → List (Turn S) → S
after_turns state [] = state
after_turns state (turn ∷ turns) = after_turns turn.after turns

-- the sum of the bounds of their lines, and of a number before it
abbrev pub bound_in : {S : Type 0} → Protocol S → ℕ → S → List (Turn S) → ℕ
bound_in p used state [] = used
bound_in p used state (turn ∷ turns) = bound_in p (used + p.bound state turn.line) turn.after turns

-- ---- turns

-- One turn after another, with these lines after them. No line of a turn ends the session. `used` is the sum of the
-- bounds of the lines before. A search is interrupted only where fewer polls are owed at the start of the session than
-- the bounds of the lines up to it.
abbrev pub Turns : {S : Type 0} → Protocol S → Owed → ℕ → S → List (Turn S) → List Line → Type 0
Turns p owed used state [] following = Unit {0}
Turns p owed used state (turn ∷ turns) following =
    (p.quits turn.line ≡ false)
    × p.answers (Lacks owed (used + p.bound state turn.line)) state turn (lines_in turns ++ following)
    × Turns p owed (used + p.bound state turn.line) turn.after turns following

-- the lines are over: none is left, or the next one ends the session, whatever follows
abbrev pub IsOver : {S : Type 0} → Protocol S → List Line → Type 0
IsOver p [] = Unit {0}
IsOver p (line ∷ lines) = p.quits line ≡ true

-- how many of these lines a session wants: up to and with the first that ends it, else all
abbrev pub lines_wanted : {S : Type 0} → Protocol S → List Line → ℕ
lines_wanted p [] = 0
lines_wanted p (line ∷ lines) = if p.quits line then 1 else suc (lines_wanted p lines)

-- the line that ends a session, where one does, as a number
abbrev pub ending_lines : List Line → ℕ
ending_lines [] = 0
ending_lines (line ∷ lines) = 1

-- ---- a session

-- A session of these lines, readings and reads of files may write this, where these polls are owed at its start. The
-- reads find what the contents of the files say, where these are told; its failures are `faults_in reads`.
pub record Session (S : Type 0) (p : Protocol S) (owed : Owed) (state : S) (files : Option Contents) (reads : List Read)
    (lines : List Line) (taken output : List ℕ) : Type 0 where
  pub turns : List (Turn S)
  pub rest : List Line
  pub lines_are : lines ≡ lines_in turns ++ rest
  pub over : IsOver p rest
  pub allowed : Turns p owed 0 state turns rest
  pub reads_are : reads ≡ reads_in turns
  pub found : Finds files reads
  pub readings_are : taken ≡ readings_in turns
  pub output_is : output ≡ output_in p.dialect turns
