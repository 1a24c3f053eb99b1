-- What a run has done.
use Rattle.std.specs.Prelude.{◌≡◌, ◌≤◌, ◌⊎◌, ℕ, Bool, true, false, List, [], ◌++◌, length, Option, Some, None, IsSomeAnd}
use Rattle.io_ports.specs.declared.dialect.Dialect.{Dialect}
use Rattle.io_ports.specs.Cause.{Rose}
use Rattle.io_ports.specs.Files.{Contents, Read}
use Rattle.io_ports.specs.Lines.{Line, lines_of}
use Rattle.io_ports.specs.Source.{Owed, Untold}
use Rattle.session_model.specs.Speaks.{Speaks}
use Rattle.session_model.specs.Spoken.{Decide, IsInput}
use Rattle.session_model.specs.Turned.{Further}
use Rattle.one_shots.specs.Commands.{asks_file, asks_input, lines_asked}
use Rattle.one_shots.specs.Looked.{TellsReads}
use Rattle.one_shots.specs.Sessions.{dialect_of, is_session, to_do}
use Rattle.one_shots.specs.Shot.{Shot}
use Rattle.one_shots.specs.Statuses.{IsCut, IsUnreadable, NamesFile}
use Rattle.one_shots.specs.Variants.{Accepts, sections_in}
use Rattle.words.specs.Asked.{Asked}

-- the source tells its bytes, and the input is their lines
abbrev pub TellsInput : Option (List ℕ) → List Line → Type 0
TellsInput None input = ⊥
TellsInput (Some bytes) input = lines_of bytes ≡ input

-- ---- what a run may do

-- A session spoke and ended with status 0, after the first of these reads found the file of variants, where one is
-- named. The later reads are the session's.
pub record RanSession (dialect : Dialect) (a : Asked) (owed : Owed) (contents : Option Contents) (reads : List Read)
    (input : List Line) (readings : List ℕ) (status : ℕ) (text : List ℕ) : Type 0 where
  pub first : List Read
  pub later : List Read
  pub reads_are : reads ≡ first ++ later
  pub accepted : Accepts a.variants first
  pub speaks : Speaks dialect (sections_in a.variants first) a.threads owed contents later input readings text
  pub ended : status ≡ 0

-- what is asked is a session, and it spoke
abbrev pub MaySpeak : Option Asked → Owed → Option Contents → List Read → List Line → List ℕ → ℕ → List ℕ → Type 0
MaySpeak None owed contents reads input readings status text = ⊥
MaySpeak (Some a) owed contents reads input readings status text =
    IsSomeAnd (dialect_of a.command) (λ dialect. RanSession dialect a owed contents reads input readings status text)

-- What a run may do: end with this status and text after these readings of the clock, where its source owes these polls
-- and its files have these contents, if they tell them, at the start, it asked for these files, and its input has these
-- lines. A one-shot command takes no reading, and nor does a run whose session does not begin.
unfoldable pub May : Owed → List (List ℕ) → Option Contents → List Read → List Line → List ℕ → ℕ → List ℕ → Type 0
May owed words contents reads input readings status text =
    (Shot words reads input status text × (readings ≡ []))
    ⊎ MaySpeak (to_do words) owed contents reads input readings status text

-- ---- what a run did

-- A run wrote the whole text of one of its answers. `moved` says what went through the ports, and `read` what was read
-- of files; `contents` and `left` are what the files and the source told before the run, if anything. The lines that
-- were taken are the first of the input, no more than the answer needs, and they decide it.
pub record Did (owed : Owed) (moved : List Line → List ℕ → List ℕ → Type 0) (read : List Read → Type 0)
    (contents : Option Contents) (left : Option (List ℕ)) (words : List (List ℕ)) (status : ℕ) : Type 0 where
  pub lines : List Line
  pub rest : List Line
  pub readings : List ℕ
  pub reads : List Read
  pub text : List ℕ
  pub moves : moved lines text readings
  pub asks : read reads
  pub input : IsInput left (lines ++ rest)
  pub few : length lines ≤ lines_asked (to_do words) reads (lines ++ rest)
  pub decided : Decide lines rest (λ input. May owed words contents reads input readings status text)
  pub allowed : May owed words contents reads (lines ++ rest) readings status text

-- the first of these reads found the file of variants that is asked for, if one is, and it was taken
pub record HasOpened (a : Asked) (reads : List Read) : Type 0 where
  pub first : List Read
  pub later : List Read
  pub reads_are : reads ≡ first ++ later
  pub accepted : Accepts a.variants first

abbrev pub OpenedAt : Option Asked → List Read → Type 0
OpenedAt None reads = ⊥
OpenedAt (Some a) reads = HasOpened a reads

-- A run of a one-shot command that ended with this status wrote a front part of the text of its answer, or nothing while
-- the lines taken do not decide it yet. So where the source failed, the file of variants had been read and taken, if one
-- is named.
pub record ShotPart (moved : List Line → List ℕ → List ℕ → Type 0) (read : List Read → Type 0)
    (contents : Option Contents) (left : Option (List ℕ)) (words : List (List ℕ)) (result : ℕ) : Type 0 where
  pub lines : List Line
  pub rest : List Line
  pub reads : List Read
  pub further : List Read
  pub written : List ℕ
  pub back : List ℕ
  pub status : ℕ
  pub moves : moved lines written []
  pub asks : read reads
  pub after : Further contents further
  pub input : IsInput left (lines ++ rest)
  pub few : length lines ≤ lines_asked (to_do words) (reads ++ further) (lines ++ rest)
  pub decided : (written ≡ [])
      ⊎ Decide lines rest (λ input. Shot words (reads ++ further) input status (written ++ back))
  pub allowed : Shot words (reads ++ further) (lines ++ rest) status (written ++ back)
  pub opened : result ≡ 4 → OpenedAt (to_do words) reads

-- A run of a session that ended with this status wrote a front part of what it may write to the lines that were taken,
-- and to no more: as if the input ended after them, and with any answers to its polls. A run that is refused before its
-- session takes no line. So where the source failed, the file of variants had been read and taken, if one is named, the
-- session had begun, and what was written is the session's.
pub record RanSessionPart (moved : List Line → List ℕ → List ℕ → Type 0) (read : List Read → Type 0)
    (contents : Option Contents) (words : List (List ℕ)) (result : ℕ) : Type 0 where
  pub lines : List Line
  pub readings : List ℕ
  pub reads : List Read
  pub further : List Read
  pub written : List ℕ
  pub back : List ℕ
  pub status : ℕ
  pub moves : moved lines written readings
  pub asks : read reads
  pub after : Further contents further
  pub few : length lines ≤ lines_asked (to_do words) (reads ++ further) lines
  pub allowed : May Untold words contents (reads ++ further) lines readings status (written ++ back)
  pub opened : result ≡ 4 → OpenedAt (to_do words) reads
  pub begun : result ≡ 4
      → MaySpeak (to_do words) Untold contents (reads ++ further) lines readings status (written ++ back)

-- the first of these of a one-shot command, and the second of a session
abbrev pub PartBy : Bool → Type 0 → Type 0 → Type 0
PartBy false Shot Spoken = Shot
PartBy true Shot Spoken = Spoken

abbrev pub PartOf : Option Asked → Type 0 → Type 0 → Type 0
PartOf None Shot Spoken = Shot
PartOf (Some a) Shot Spoken = PartBy (is_session a.command) Shot Spoken

-- A run that ended with this status wrote a front part of one of its answers.
abbrev pub DidPart : (List Line → List ℕ → List ℕ → Type 0) → (List Read → Type 0) → Option Contents → Option (List ℕ)
    → List (List ℕ) → ℕ → Type 0
DidPart moved read contents left words result =
    PartOf (to_do words) (ShotPart moved read contents left words result)
    (RanSessionPart moved read contents words result)

-- ---- statuses

-- the file of variants was not read: it is missing, it is too large, or the files failed
abbrev pub HasFileCause : Option Contents → ℕ → ℕ → List (List ℕ) → Type 0
HasFileCause contents before now words = NamesFile (to_do words) (λ name. IsUnreadable contents name ⊎ Rose before now)

-- the run ended with the status of a file that was not read, and the files' faults rose
abbrev pub FilesFailed : ℕ → ℕ → ℕ → Type 0
FilesFailed before now result = (result ≡ 6) × Rose before now

-- A status that the definitions give to a one-shot command, or to a session that does not begin, is the run's, unless
-- the run was cut short or the files failed: where the reads, if a file is named, and the input, if one is read, are
-- those that the files and the source tell.
abbrev pub Completes : Option Contents → Option (List ℕ) → List (List ℕ) → (ℕ → Type 0) → ℕ → Type 0
Completes contents left words FilesFailed result =
    (reads : List Read) (input : List Line) (status : ℕ) (text : List ℕ)
    → (asks_file (to_do words) ≡ true → TellsReads contents reads)
    → (asks_input (to_do words) ≡ true → TellsInput left input)
    → Shot words reads input status text → (result ≡ status) ⊎ IsCut result ⊎ FilesFailed result

-- a session is asked, and begins after these reads
abbrev pub BeginsSession : Option Asked → List Read → Type 0
BeginsSession None reads = ⊥
BeginsSession (Some a) reads = (is_session a.command ≡ true) × Accepts a.variants reads

-- A session ends with status 0, unless the run was cut short or the files failed: where the file of variants, if one is
-- named, is taken as the files tell it.
abbrev pub CompletesSession : Option Contents → List (List ℕ) → (ℕ → Type 0) → ℕ → Type 0
CompletesSession contents words FilesFailed result =
    (reads : List Read)
    → (asks_file (to_do words) ≡ true → TellsReads contents reads)
    → BeginsSession (to_do words) reads → (result ≡ 0) ⊎ IsCut result ⊎ FilesFailed result
