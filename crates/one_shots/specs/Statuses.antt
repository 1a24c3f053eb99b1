-- The statuses of a run, and what is the matter with a file that was not read.
use Rattle.std.specs.Prelude.{◌≡◌, ◌⊎◌, ℕ, Option, Some, None, IsSomeAnd, ⊤}
use Rattle.io_ports.specs.Files.{Contents}
use Rattle.one_shots.specs.Looked.{IsTooLarge}
use Rattle.words.specs.Asked.{Asked}
use Rattle.words.specs.Options.{Text}

-- the statuses of a run that did what its words ask
abbrev pub IsDone : ℕ → Type 0
IsDone status = (status ≡ 0) ⊎ (status ≡ 2) ⊎ (status ≡ 3) ⊎ (status ≡ 6)

-- the statuses of a run that was cut short: the source failed, the sink failed, or there was no memory
abbrev pub IsCut : ℕ → Type 0
IsCut status = (status ≡ 4) ⊎ (status ≡ 5) ⊎ (status ≡ 7)

-- the file is missing or too large, as far as the files tell what they have
abbrev pub IsUnreadable : Option Contents → Text → Type 0
IsUnreadable None name = ⊤
IsUnreadable (Some files) name = (files name ≡ None) ⊎ IsTooLarge (files name)

-- a file of variants is named, and this holds of its name
abbrev pub NamesFile : Option Asked → (Text → Type 0) → Type 0
NamesFile None Holds = ⊥
NamesFile (Some a) Holds = IsSomeAnd a.variants Holds
