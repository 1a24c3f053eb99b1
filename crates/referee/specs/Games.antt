-- A game that is kept.
use Rattle.std.specs.Prelude.{◌≡◌, ◌⊎◌, ℕ, List, [], Option, Some, None, Result, Ok, Err, ⊤}
use Rattle.io_ports.specs.Files.{Read}
use Rattle.io_ports.specs.Lines.{Line, lines_of}
use Rattle.variant_ini.specs.Section.{Section}
use Rattle.variant_rules.specs.Entries.{entries}
use Rattle.game_play.specs.Played.{Played}
use Rattle.game_text.specs.GameText.{game_of}
use Rattle.game_text.specs.declared.fault.GameFault.{GameFault}
use Rattle.one_shot_checks.specs.Fault.{error_line, fault_status, fault_text}
use Rattle.one_shot_checks.specs.declared.fault.Fault.{Fault}
use Rattle.one_shot_checks.specs.declared.fault.Fault.TheVariants.{Game}
use Rattle.one_shot_checks.specs.declared.no_answer.NoAnswer.{NoAnswer}
use Rattle.one_shot_checks.specs.declared.no_answer.NoAnswer.TheVariants as no_answer
use Rattle.one_shots.specs.declared.answers.Answer.{Answer}
use Rattle.one_shots.specs.GameView.{IsGameFault, SaysGame}
use Rattle.one_shots.specs.Looked.{TellsReads}
use Rattle.one_shots.specs.OpeningView.{HasSections}
use Rattle.one_shots.specs.Variants.{Accepts, Refuses, sections_in}
use Rattle.words.specs.Options.{Text}
use Rattle.referee.specs.Refereed.{all_have}
use Rattle.referee.specs.declared.games.Begun.{Begun}
use Rattle.referee.specs.declared.games.Begun.TheVariants.{Kept, Refused}

-- the name under which the file is read, where there is one
abbrev pub name_of : Option (List ℕ) → Option Text
name_of None = None
name_of (Some bytes) = Some []

-- the sections that are built in and those of the file, or why it is refused
pub record HasGiven (file : Option (List ℕ)) (given : Result (List Section) NoAnswer) : Type 0 where
  pub reads : List Read
  pub told : TellsReads (Some (all_have file)) reads
  pub has : HasSections (name_of file) reads given

-- the game that the input says of these sections, or its fault
abbrev pub SaysInput : List Section → List ℕ → Result Played NoAnswer → Type 0
SaysInput sections input given = SaysGame (game_of (entries sections) (lines_of input)) given

-- The file is taken, and the input says this game. Or the file has this fault, or it is taken and the input has it.
-- Where the run was cut short nothing is known.
abbrev pub SaysBegun : Option Text → List Read → List Line → Result Played NoAnswer → Type 0
SaysBegun name reads lines (Ok g) =
    Accepts name reads × (game_of (entries (sections_in name reads)) lines ≡ Ok g)
SaysBegun name reads lines (Err no_answer.Usage) = ⊥
SaysBegun name reads lines (Err (no_answer.Fault fault)) =
    Refuses name reads fault
    ⊎ (Accepts name reads × IsGameFault (game_of (entries (sections_in name reads)) lines) fault)
SaysBegun name reads lines (Err (no_answer.Stop why)) = ⊤

-- the same of a file with these bytes, or of none, and of an input
pub record Begins (file : Option (List ℕ)) (input : List ℕ) (given : Result Played NoAnswer) : Type 0 where
  pub reads : List Read
  pub told : TellsReads (Some (all_have file)) reads
  pub says : SaysBegun (name_of file) reads (lines_of input) given

-- the answer tells the fault
abbrev pub IsAnswerOf : Fault → Answer → Type 0
IsAnswerOf fault answer =
    (answer.status ≡ fault_status fault) × (answer.text ≡ error_line (fault_text fault))

-- the file or the input has a fault, which the answer tells
pub record IsRefused (file : Option (List ℕ)) (input : List ℕ) (answer : Answer) : Type 0 where
  pub fault : Fault
  pub begins : Begins file input (Err (no_answer.Fault fault))
  pub tells : IsAnswerOf fault answer

-- the game is begun that the input says; or the answer tells why there is none
abbrev pub IsBegun : Option (List ℕ) → List ℕ → Begun → Type 0
IsBegun file input (Kept g) = Begins file input (Ok g)
IsBegun file input (Refused answer) = IsRefused file input answer

-- a text names no legal move, or there is no room for it: the answer tells which
pub record IsUnplayed (said : Result Played GameFault) (answer : Answer) : Type 0 where
  pub why : GameFault
  pub has : said ≡ Err why
  pub tells : IsAnswerOf (Game why) answer

-- the game goes on as it is said; or the answer tells why it does not, and the game is what it was
abbrev pub MovesOn : Result Played GameFault → Played → Played → Option Answer → Type 0
MovesOn said old new None = said ≡ Ok new
MovesOn said old new (Some answer) = IsUnplayed said answer × (new ≡ old)
