-- What the commands do with the input and the files.
use Rattle.std.specs.Prelude.{◌≡◌, ℕ, List, Option, Some, None, is_some, Bool, true, false}
use Rattle.io_ports.specs.declared.dialect.Dialect.TheVariants as dialect
use Rattle.io_ports.specs.Files.{Read}
use Rattle.io_ports.specs.Lines.{Line}
use Rattle.variant_ini.specs.Section.{Section}
use Rattle.variant_rules.specs.Entries.{entries}
use Rattle.game_text.specs.GameText.{lines_of_game}
use Rattle.suite.specs.Suite.{lines_of_suite}
use Rattle.words.specs.Asked.{Asked}
use Rattle.words.specs.Command.{Command, Uci, Xboard, Moves, Status, Checkers, Perft, Check, SelfMate, HelpMate, CheckCert, Variants, Reach, Generate, RulesOf, Help, Version, Suite, PnMate, Keys}
use Rattle.one_shot_checks.specs.declared.fault.Fault.{Fault}
use Rattle.one_shot_checks.specs.Checking.{lines_of_check}
use Rattle.one_shot_checks.specs.Certificates.{lines_of_cert_check}
use Rattle.one_shots.specs.Sessions.{is_session, lines_wanted}
use Rattle.one_shots.specs.Variants.{fault_in, sections_in}

-- the command reads its input
abbrev pub reads_input : Command → Bool
reads_input Uci = true
reads_input Xboard = true
reads_input Moves = true
reads_input Status = true
reads_input Checkers = true
reads_input (Perft plies) = true
reads_input Check = true
reads_input (SelfMate moves) = true
reads_input (HelpMate moves) = true
reads_input CheckCert = true
reads_input Variants = false
reads_input (Reach word square own enemy) = false
reads_input (Generate name number plies) = false
reads_input (RulesOf name) = false
reads_input Help = false
reads_input Version = false
reads_input Suite = true
reads_input (PnMate moves) = true
reads_input (Keys moves) = true

-- A referee answers the command: it is no session, and none of `generate`, `suite`, `pnmate` and `keys`.
abbrev pub is_refereed : Command → Bool
is_refereed Uci = false
is_refereed Xboard = false
is_refereed Moves = true
is_refereed Status = true
is_refereed Checkers = true
is_refereed (Perft plies) = true
is_refereed Check = true
is_refereed (SelfMate moves) = true
is_refereed (HelpMate moves) = true
is_refereed CheckCert = true
is_refereed Variants = true
is_refereed (Reach word square own enemy) = true
is_refereed (Generate name number plies) = false
is_refereed (RulesOf name) = true
is_refereed Help = true
is_refereed Version = true
is_refereed Suite = false
is_refereed (PnMate moves) = false
is_refereed (Keys moves) = false

abbrev pub asks_input : Option Asked → Bool
asks_input None = false
asks_input (Some a) = reads_input a.command

-- how many of these lines tell the command its input, where there are these sections: all, or those up to the first
-- faulty one, or those up to the one that ends a session
abbrev pub lines_needed : List Section → Command → List Line → ℕ
lines_needed sections Uci input = lines_wanted dialect.Uci input
lines_needed sections Xboard input = lines_wanted dialect.Cecp input
lines_needed sections Moves input = lines_of_game (entries sections) input
lines_needed sections Status input = lines_of_game (entries sections) input
lines_needed sections Checkers input = lines_of_game (entries sections) input
lines_needed sections (Perft plies) input = lines_of_game (entries sections) input
lines_needed sections Check input = lines_of_check (entries sections) input
lines_needed sections (SelfMate moves) input = lines_of_game (entries sections) input
lines_needed sections (HelpMate moves) input = lines_of_game (entries sections) input
lines_needed sections CheckCert input = lines_of_cert_check (entries sections) input
lines_needed sections Variants input = 0
lines_needed sections (Reach word square own enemy) input = 0
lines_needed sections (Generate name number plies) input = 0
lines_needed sections (RulesOf name) input = 0
lines_needed sections Help input = 0
lines_needed sections Version input = 0
lines_needed sections Suite input = lines_of_suite (entries sections) input
lines_needed sections (PnMate moves) input = lines_of_game (entries sections) input
lines_needed sections (Keys moves) input = lines_of_game (entries sections) input

-- this number of lines, or none where the file of variants has a fault
abbrev pub lines_reached : Option Fault → ℕ → ℕ
lines_reached None lines = lines
lines_reached (Some fault) lines = 0

-- how many lines a run asks for that does this: the file of variants is judged, by what was found of it, before any is
-- taken
abbrev pub lines_asked : Option Asked → List Read → List Line → ℕ
lines_asked None reads input = 0
lines_asked (Some a) reads input =
    lines_reached (fault_in a.variants reads) (lines_needed (sections_in a.variants reads) a.command input)

-- a file of variants is named
abbrev pub asks_file : Option Asked → Bool
asks_file None = false
asks_file (Some a) = is_some a.variants

-- a one-shot command, or none
abbrev pub IsOneShot : Option Asked → Type 0
IsOneShot None = Unit {0}
IsOneShot (Some a) = is_session a.command ≡ false
