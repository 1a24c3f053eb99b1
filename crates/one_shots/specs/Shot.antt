-- What a run of one command says: a status and a text, for the words, the reads of files and the lines of the input.
use Rattle.std.specs.Prelude.{◌≡◌, ℕ, List, Option, Some, None, Result, Ok, Err}
use Rattle.io_ports.specs.Files.{Read}
use Rattle.io_ports.specs.Lines.{Line}
use Rattle.betza_text.specs.declared.part.Part.{Part}
use Rattle.betza_text.specs.declared.fault.BetzaFault.{BetzaFault}
use Rattle.betza_text.specs.Fault.{fault_text as betza_text}
use Rattle.betza_text.specs.Word.{Spells, BetzaBad}
use Rattle.betza_compile.specs.Terms.{terms}
use Rattle.rules_model.specs.declared.board.Cell.{Cell}
use Rattle.rules_model.specs.declared.board.Square.{Square}
use Rattle.variant_ini.specs.Section.{Section}
use Rattle.variant_rules.specs.Entries.{entries}
use Rattle.game_play.specs.Played.{Played}
use Rattle.game_text.specs.declared.fault.GameFault.{GameFault}
use Rattle.game_text.specs.Fault as game
use Rattle.game_text.specs.GameText.{game_of}
use Rattle.one_shots.specs.Generate.{SaysGenerate}
use Rattle.words.specs.Asked.{Asked}
use Rattle.words.specs.Command.{Command, Uci, Xboard, Moves, Status, Checkers, Perft, Check, SelfMate, HelpMate, CheckCert, Variants, Reach, Generate, RulesOf, Help, Version, Suite, PnMate, Keys}
use Rattle.one_shot_checks.specs.declared.fault.Fault.{Fault}
use Rattle.one_shot_checks.specs.Certificates.{SaysCertCheck}
use Rattle.one_shot_checks.specs.Checking.{SaysCheck}
use Rattle.one_shot_checks.specs.Fault.{error_line, fault_status, fault_text, usage_line}
use Rattle.one_shot_checks.specs.Setup.{unplaced_text}
use Rattle.game_text.specs.GameTexts.{moves_of, status_of, perft_of}
use Rattle.checkers.specs.CheckersText.{checkers_of}
use Rattle.one_shot_checks.specs.GameTexts.{self_mate_of, help_mate_of}
use Rattle.one_shot_checks.specs.ReachText.{reach_text}
use Rattle.one_shots.specs.Sessions.{to_do}
use Rattle.one_shots.specs.FirstMoves.{SaysKeys}
use Rattle.one_shots.specs.HelpText.{help_text, version_text}
use Rattle.one_shots.specs.PnMates.{SaysPnMate}
use Rattle.one_shot_checks.specs.Setup.{Unplaced, setup_of}
use Rattle.one_shots.specs.RulesTold.{SaysRules}
use Rattle.one_shots.specs.Suites.{SaysSuite}
use Rattle.one_shots.specs.Variants.{AreFirstReads, fault_in, sections_in}
use Rattle.one_shots.specs.VariantsText.{variants_text}

-- `reach`: the squares that a piece of this word reaches on this board, or the fault of the word, or else the first of
-- the squares
pub data SaysReach (word square own enemy : List ℕ) : ℕ → List ℕ → Type 0 where
  reached : (b : List Part) (from : Square) (cells : List (Option Cell)) → Spells word b
      → setup_of square own enemy ≡ Ok (from, cells)
      → SaysReach word square own enemy 0 (reach_text cells (terms b) from)
  faulty_word : (fault : BetzaFault) → BetzaBad word fault
      → SaysReach word square own enemy 3 (error_line (betza_text fault))
  faulty_square : (b : List Part) (why : Unplaced) → Spells word b → setup_of square own enemy ≡ Err why
      → SaysReach word square own enemy 3 (error_line (unplaced_text why))

-- what is printed of a game, or the fault of the text that says none
abbrev pub SaysOf : (Played → List ℕ) → Result Played GameFault → ℕ → List ℕ → Type 0
SaysOf print (Ok g) status text = (status ≡ 0) × (text ≡ print g)
SaysOf print (Err fault) status text = (status ≡ 3) × (text ≡ error_line (game.fault_text fault))

-- what is printed of the game that a game text of these lines says, where there are these sections, or the text's
-- fault
abbrev pub SaysOfGame : (Played → List ℕ) → List Section → List Line → ℕ → List ℕ → Type 0
SaysOfGame print sections input status text = SaysOf print (game_of (entries sections) input) status text

-- the answer of a command to an input with these lines, where there are these sections; a session has none
abbrev pub SaysCommand : List Section → Command → List Line → ℕ → List ℕ → Type 0
SaysCommand sections Uci input status text = ⊥
SaysCommand sections Xboard input status text = ⊥
SaysCommand sections Moves input status text = SaysOfGame moves_of sections input status text
SaysCommand sections Status input status text = SaysOfGame status_of sections input status text
SaysCommand sections Checkers input status text = SaysOfGame checkers_of sections input status text
SaysCommand sections (Perft plies) input status text = SaysOfGame (perft_of plies) sections input status text
SaysCommand sections Check input status text = SaysCheck (entries sections) input status text
SaysCommand sections (SelfMate moves) input status text = SaysOfGame (self_mate_of moves) sections input status text
SaysCommand sections (HelpMate moves) input status text = SaysOfGame (help_mate_of moves) sections input status text
SaysCommand sections CheckCert input status text = SaysCertCheck (entries sections) input status text
SaysCommand sections Variants input status text = (status ≡ 0) × (text ≡ variants_text (entries sections))
SaysCommand sections (Reach word square own enemy) input status text = SaysReach word square own enemy status text
SaysCommand sections (Generate name number plies) input status text =
    SaysGenerate sections name number plies status text
SaysCommand sections (RulesOf name) input status text = SaysRules sections name status text
SaysCommand sections Help input status text = (status ≡ 0) × (text ≡ help_text)
SaysCommand sections Version input status text = (status ≡ 0) × (text ≡ version_text)
SaysCommand sections Suite input status text = SaysSuite (entries sections) input status text
SaysCommand sections (PnMate moves) input status text = SaysPnMate moves (entries sections) input status text
SaysCommand sections (Keys moves) input status text = SaysKeys moves (entries sections) input status text

-- the status and the line of a fault
abbrev pub SaysFault : Fault → ℕ → List ℕ → Type 0
SaysFault fault status text = (status ≡ fault_status fault) × (text ≡ error_line (fault_text fault))

-- the fault of the file of variants, or else what the command says
abbrev pub SaysLoaded : Option Fault → (ℕ → List ℕ → Type 0) → ℕ → List ℕ → Type 0
SaysLoaded None Says status text = Says status text
SaysLoaded (Some fault) Says status text = SaysFault fault status text

-- the answer of a run that does this, by what its first reads found
abbrev pub SaysAsked : Asked → List Read → List Line → ℕ → List ℕ → Type 0
SaysAsked a reads input status text =
    SaysLoaded (fault_in a.variants reads) (SaysCommand (sections_in a.variants reads) a.command input) status text

abbrev pub Says : Option Asked → List Read → List Line → ℕ → List ℕ → Type 0
Says None reads input status text = (status ≡ 2) × (text ≡ usage_line)
Says (Some a) reads input status text = SaysAsked a reads input status text

-- The status and the text of a run with these words, where it asked for these files and no others, and the input has
-- these lines. Of a session it is what is said where the session does not begin.
pub record ShotOf (asked : Option Asked) (reads : List Read) (input : List Line) (status : ℕ) (text : List ℕ)
    : Type 0 where
  pub asks : AreFirstReads asked reads
  pub says : Says asked reads input status text

unfoldable pub Shot : List (List ℕ) → List Read → List Line → ℕ → List ℕ → Type 0
Shot words reads input status text = ShotOf (to_do words) reads input status text
