-- What the program answers to the words of a command, over bytes that are given.
use Rattle.std.specs.Prelude.{◌≡◌, ◌==◌, ℕ, List, Option, Some, IsSomeAnd, false}
use Rattle.std.specs.List.{slice_split}
use Rattle.std.specs.Str.Lossy.{utf8_lossy}
use Rattle.io_ports.specs.Files.{Contents, Read}
use Rattle.io_ports.specs.Lines.{line_feed, lines_of}
use Rattle.one_shots.specs.Commands.{is_refereed}
use Rattle.one_shots.specs.Looked.{TellsReads}
use Rattle.one_shots.specs.Sessions.{to_do}
use Rattle.one_shots.specs.Shot.{Shot}

-- the words of a text: its lines. Bytes that are no UTF-8 are replaced
abbrev pub words_of : List ℕ → List (List ℕ)
words_of text = slice_split (λ byte. byte == line_feed) (utf8_lossy text)

-- the contents of files of which each has these bytes, whatever its name is; or of none
abbrev pub all_have : Option (List ℕ) → Contents
all_have file name = file

-- The status and the text of a run with these words, where the file that they name has these bytes, or there is none,
-- and the input has those.
pub record Refereed (words : List (List ℕ)) (file : Option (List ℕ)) (input : List ℕ) (status : ℕ) (text : List ℕ)
    : Type 0 where
  pub reads : List Read
  pub told : TellsReads (Some (all_have file)) reads
  pub shot : Shot words reads (lines_of input) status text

-- the words are of a command that no referee answers
abbrev pub IsUnrefereed : List (List ℕ) → Type 0
IsUnrefereed words = IsSomeAnd (to_do words) (λ asked. is_refereed asked.command ≡ false)
