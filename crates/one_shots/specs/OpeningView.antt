-- What a run does first, as the code answers it.
use Rattle.std.specs.Prelude.{◌≡◌, ◌⊎◌, List, [], Option, Some, None, Result, Ok, Err, ⊤}
use Rattle.io_ports.specs.Files.{Read}
use Rattle.variant_ini.specs.Section.{Section}
use Rattle.one_shot_checks.specs.declared.fault.Fault.{Fault}
use Rattle.one_shot_checks.specs.declared.no_answer.NoAnswer.{NoAnswer}
use Rattle.one_shot_checks.specs.declared.no_answer.NoAnswer.TheVariants as no_answer
use Rattle.one_shot_checks.specs.declared.stop.Stop.TheVariants as stop
use Rattle.one_shots.specs.declared.opening.Opened.{Opened}
use Rattle.one_shots.specs.Variants.{Accepts, AreFirstReads, AreReadsOf, Refuses, sections_in}
use Rattle.words.specs.declared.reading.Asked.{Asked as GivenAsked}
use Rattle.words.specs.Asked.{Asked}
use Rattle.words.specs.Options.{Text}
use Rattle.words.specs.View.{asked_seen}

-- what a run does, or the usage line where it does nothing
abbrev pub IsToDo : Option Asked → Result GivenAsked NoAnswer → Type 0
IsToDo asked (Ok given) = asked ≡ Some (asked_seen given)
IsToDo asked (Err no_answer.Usage) = asked ≡ None
IsToDo asked (Err (no_answer.Fault fault)) = ⊥
IsToDo asked (Err (no_answer.Stop stop.Source)) = ⊥
IsToDo asked (Err (no_answer.Stop stop.Sink)) = ⊥
IsToDo asked (Err (no_answer.Stop stop.Memory)) = ⊤

-- all reads of the file of variants were done, or none
abbrev pub AreReadsOrNone : Option Text → List Read → Type 0
AreReadsOrNone name reads = (reads ≡ []) ⊎ AreReadsOf name reads

-- the sections are the built-in ones and those that were found of the file of this name, or the file is refused
abbrev pub HasSections : Option Text → List Read → Result (List Section) NoAnswer → Type 0
HasSections name reads (Ok sections) = Accepts name reads × (sections ≡ sections_in name reads)
HasSections name reads (Err no_answer.Usage) = ⊥
HasSections name reads (Err (no_answer.Fault fault)) = Refuses name reads fault
HasSections name reads (Err (no_answer.Stop stop.Source)) = ⊥
HasSections name reads (Err (no_answer.Stop stop.Sink)) = ⊥
HasSections name reads (Err (no_answer.Stop stop.Memory)) = AreReadsOrNone name reads

-- the file of variants that is named is refused, for this fault
abbrev pub RefusesAsked : Option Asked → List Read → Fault → Type 0
RefusesAsked None reads fault = ⊥
RefusesAsked (Some a) reads fault = Refuses a.variants reads fault

-- all reads that a run does first were done, or none
abbrev pub AreFirstOrNone : Option Asked → List Read → Type 0
AreFirstOrNone asked reads = (reads ≡ []) ⊎ AreFirstReads asked reads

-- what a run does, with the sections that there are after these reads, or why it does nothing of it
abbrev pub Opens : Option Asked → List Read → Result Opened NoAnswer → Type 0
Opens asked reads (Ok o) =
    (asked ≡ Some (asked_seen o.asked)) × Accepts (asked_seen o.asked).variants reads
    × (o.sections ≡ sections_in (asked_seen o.asked).variants reads)
Opens asked reads (Err no_answer.Usage) = (asked ≡ None) × (reads ≡ [])
Opens asked reads (Err (no_answer.Fault fault)) = RefusesAsked asked reads fault
Opens asked reads (Err (no_answer.Stop stop.Source)) = ⊥
Opens asked reads (Err (no_answer.Stop stop.Sink)) = ⊥
Opens asked reads (Err (no_answer.Stop stop.Memory)) = AreFirstOrNone asked reads
