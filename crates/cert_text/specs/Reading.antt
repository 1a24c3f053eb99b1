-- The certificate for a game that the lines of a text say, or their first fault.
use Rattle.std.specs.Prelude.{ℕ, ◌+◌, ◌==◌, Bool, true, false, List, [], ◌∷◌, reverse, Option, None, Some, Result, Ok, Err, if◌then◌else◌}
use Rattle.io_ports.specs.Lines.{Line, Text, TooLong}
use Rattle.rules_model.specs.declared.board.Position.{Position}
use Rattle.rules_model.specs.declared.moves.Move.{Move}
use Rattle.rules_model.specs.declared.rules.Rules.{Rules}
use Rattle.rules_model.specs.Games.{Story}
use Rattle.game_text.specs.Playing.{move_in}
use Rattle.stipulation.specs.declared.cert.Cert.{Cert}
use Rattle.stipulation.specs.declared.cert.Step.{Step}
use Rattle.stipulation.specs.Searches as Searches
use Rattle.stipulation.specs.Stipulations.{help_games}
use Rattle.stipulation.specs.Trees.{parent_game}
use Rattle.stipulation.specs.Verdicts.{is_bad_ply}
use Rattle.cert_text.specs.declared.fault.CertFault.{CertFault}
use Rattle.cert_text.specs.declared.fault.CertFault.TheVariants.{BadLine, Ended}
use Rattle.cert_text.specs.Said.{Said, step_line, end_line, is_title, said}

-- steps of which the first fault is the answer
infixl 10 ◌>>=◌
abbrev pub ◌>>=◌ : {A B : Type 0} → Result A CertFault → (A → Result B CertFault) → Result B CertFault
Ok x >>= f = f x
Err fault >>= f = Err fault

-- what the lines so far say: the number of the next line, the steps from the latest on, and whether the end was said
pub record SoFar : Type 0 where
  pub line : ℕ
  pub earlier : List Step
  pub is_ended : Bool

-- before the first line
abbrev pub begun : SoFar
begun = record { line = 1; earlier = []; is_ended = false }

-- ---- a step

-- of the step before, and 0 where there is none
abbrev pub last_ply : List Step → ℕ
last_ply [] = 0
last_ply (s ∷ earlier) = s.ply

-- The last position of the game of a step's parent. The parents of a helpmate's steps serve for a selfmate too: who
-- chooses does not matter to where moves lead.
abbrev pub parent_position : Rules → Story → List Step → ℕ → Position
parent_position rules g earlier ply = (parent_game (help_games rules g.last.side) g earlier ply).last

abbrev pub with_move : SoFar → ℕ → Option Move → Result SoFar CertFault
with_move b ply None = Err (BadLine b.line)
with_move b ply (Some m) = Ok (record b { earlier = Searches.step ply m ∷ b.earlier })

-- the ply may follow that of the step before, and the text is that of a legal move in the position of the parent's game
unfoldable pub with_step : Rules → Story → SoFar → ℕ → List ℕ → Result SoFar CertFault
with_step rules g b ply text =
    if is_bad_ply (last_ply b.earlier) ply then Err (BadLine b.line)
    else with_move b ply (move_in rules (parent_position rules g b.earlier ply) text)

-- ---- lines

unfoldable pub with_said : Rules → Story → SoFar → Option Said → Result SoFar CertFault
with_said rules g b None = Err (BadLine b.line)
with_said rules g b (Some (step_line ply text)) = with_step rules g b ply text
with_said rules g b (Some end_line) = Ok (record b { is_ended = true })

unfoldable pub with_text : Rules → Story → SoFar → List ℕ → Result SoFar CertFault
with_text rules g b text =
    if b.is_ended then Err (Ended b.line)
    else if b.line == 1 then (if is_title text then Ok b else Err (BadLine b.line))
    else with_said rules g b (said text)

-- the fault of a line that is too long for a source, whatever it says
abbrev pub long_fault : SoFar → CertFault
long_fault b = if b.is_ended then Ended b.line else BadLine b.line

abbrev pub with_line : Rules → Story → SoFar → Line → Result SoFar CertFault
with_line rules g b TooLong = Err (long_fault b)
with_line rules g b (Text text) = with_text rules g b text

abbrev pub counted : SoFar → Result SoFar CertFault
counted b = Ok (record b { line = b.line + 1 })

-- after one more line
unfoldable pub step : Rules → Story → SoFar → Line → Result SoFar CertFault
step rules g b line = with_line rules g b line >>= counted

-- after more lines
unfoldable pub taken : Rules → Story → SoFar → List Line → Result SoFar CertFault
taken rules g b [] = Ok b
taken rules g b (line ∷ lines) = step rules g b line >>= λ next. taken rules g next lines

-- where the text ends
abbrev pub finished : SoFar → Result Cert CertFault
finished b = if b.is_ended then Ok (record { steps = reverse b.earlier }) else Err (Ended b.line)

unfoldable pub cert_of : Rules → Story → List Line → Result Cert CertFault
cert_of rules g lines = taken rules g begun lines >>= finished
